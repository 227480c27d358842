-- The widths and lengths of a message's fields, as the tests of the code have them. Nobody need believe this file: `writing/proofs/Fitting` shows that these tests
-- together come to what `message/specs/Tables` says with `fits`, and that the runs lie within the lent octets.
use Rattle.std.specs.Prelude.{ℕ, ◌+◌, List, Bool, ◌&&◌, leb, Option, Some, None}
use Rattle.codes.specs.declared.protocol.Protocol.{Protocol}
use Rattle.codes.specs.declared.protocol.Protocol.TheVariants.{Broadcast, Group}
use Rattle.octets.specs.declared.Run.{Run}
use Rattle.message.specs.Content.{lies}
use Rattle.message.specs.Tables.{format_tv, element_fits}

-- A run of `least` to `most` octets within `s`.
unfoldable pub run_fits : List ℕ → Run → ℕ → ℕ → Bool
run_fits s run least most = leb least run.count && leb run.count most && lies s run

-- The cause of a TERMINATION REJECT.
unfoldable pub reject_fits : Protocol → List ℕ → Run → Bool
reject_fits Broadcast s cause = run_fits s cause 1 247
reject_fits Group s cause = run_fits s cause 4 4

-- An optional half octet: as its row in the table has it.
abbrev pub half_fits : Option ℕ → Bool
half_fits half = element_fits (format_tv 0 half)

-- How many octets it takes.
abbrev pub half_count : Option ℕ → ℕ
half_count None = 0
half_count (Some value) = 1

-- A STATUS: its fields, and at most 251 octets in all.
unfoldable pub status_fits : List ℕ → Run → Option ℕ → Option ℕ → Bool
status_fits s cause state attributes =
    run_fits s cause 1 247 && half_fits state && half_fits attributes && leb (3 + cause.count + half_count state + half_count attributes) 251
