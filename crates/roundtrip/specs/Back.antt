-- What it means that octets give a message back.
use Rattle.std.specs.Prelude.{ℕ, ◌≡◌, List, Bool, true, take, drop, Result, Ok, Err}
use Rattle.codes.specs.declared.protocol.Protocol.{Protocol}
use Rattle.message.specs.declared.Reading.{Reading}
use Rattle.message.specs.declared.Unread.{Unread}
use Rattle.writing.specs.declared.Unwritten.{Unwritten}
use Rattle.message.specs.Content.{Content, content_of}
use Rattle.message.specs.declared.Message.{Message}
use Rattle.message.specs.Tables.{written}
use Rattle.message.specs.Reading.{read_message}
use Rattle.writing.specs.Writing.{writable, octets_written}

-- A reading of the octets `s` says this flag, this transaction value and this content: runs are compared as octets.
abbrev pub Says : List ℕ → Bool → ℕ → Content → Result Reading Unread → Type 0
Says s flag value content (Ok read) = (read.flag ≡ flag) × (read.value ≡ value) × (content_of s read.message ≡ content)
Says s flag value content (Err unread) = ⊥

-- Reading `s` gives these back.
abbrev pub GivesBack : Protocol → List ℕ → Bool → ℕ → Content → Type 0
GivesBack protocol s flag value content = Says s flag value content (read_message protocol s)

-- A reading of the octets `s`, written again, is `s`: it is a message, which can be written, and its octets are these.
abbrev pub WritesAgain : Protocol → List ℕ → Result Reading Unread → Type 0
WritesAgain protocol s (Ok read) =
    (writable protocol s read.flag read.value read.message ≡ true) × (octets_written protocol s read.flag read.value read.message ≡ s)
WritesAgain protocol s (Err unread) = ⊥

-- A message whose runs lie in `s` stands in the buffer, which held `d` and now holds `e`: over its start are the `n` octets of the table, they give the
-- message back, and each octet behind them is as it was.
pub record Stood (protocol : Protocol) (d s : List ℕ) (flag : Bool) (value : ℕ) (message : Message) (e : List ℕ) (n : ℕ) : Type 0 where
  pub octets : take n e ≡ written protocol flag value (content_of s message)
  pub behind : drop n e ≡ drop n d
  pub back : GivesBack protocol (written protocol flag value (content_of s message)) flag value (content_of s message)

-- What an answer of `write` tells of the buffer.
abbrev pub Told : Protocol → List ℕ → List ℕ → Bool → ℕ → Message → List ℕ → Result ℕ Unwritten → Type 0
Told protocol d s flag value message e (Ok n) = Stood protocol d s flag value message e n
Told protocol d s flag value message e (Err unwritten) = e ≡ d
