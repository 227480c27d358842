-- The sixteen octets of a context: 0 state, 1 parameters, 2 timers that run, 3 transaction value, 4 to 7 call reference, 8 what is remembered (the state's number, 0 for
-- nothing), 9 what a group call keeps, 10 to 15 zero.
use Rattle.std.specs.Prelude.{ℕ, ◌+◌, ◌*◌, ◌/◌, ◌%◌, List, [], ◌∷◌, Bool, cond, ◌&&◌, ◌||◌, eqb, leb, get_or, Option, Some, None, option_map}
use Rattle.octets.specs.Rows.{rows}
use Rattle.codes.specs.declared.state.State.{State}
use Rattle.codes.specs.declared.state.State.TheVariants.{U0, U0p, U1, U2, U3, U4, U5, U6, U2sl, U2wr, U2r, U2ws, U2sr, U2nc}
use Rattle.codes.specs.declared.attributes.Parameters.{Parameters}
use Rattle.codes.specs.Attributes.{parameters_number}
use Rattle.octets.specs.declared.Reference.{Reference}
use Rattle.timer.specs.declared.Timers.{Timers}
use Rattle.context.specs.declared.Context.{Context}
use Rattle.context.specs.declared.Chooser.{Chooser}
use Rattle.context.specs.declared.Chooser.TheVariants.{Neither, Us, Cell}
use Rattle.context.specs.declared.Talk.{Talk}
use Rattle.context.specs.declared.Remembered.{Remembered}
use Rattle.context.specs.States.{number_of}
use Rattle.context.specs.Remembered.{remembered_number}
use Rattle.context.specs.Talk.{chooser_number}

-- Document 01, "The log": state, 0 to 7 for U0, U0.p, U1, U2, U3, U4, U5, U6; "state numbers from 8 on for the sub-states of U2 in 002's order".
abbrev pub numbered : List (ℕ × Option State)
numbered =
    (0, Some U0) ∷
    (1, Some U0p) ∷
    (2, Some U1) ∷
    (3, Some U2) ∷
    (4, Some U3) ∷
    (5, Some U4) ∷
    (6, Some U5) ∷
    (7, Some U6) ∷
    (8, Some U2sl) ∷
    (9, Some U2wr) ∷
    (10, Some U2r) ∷
    (11, Some U2ws) ∷
    (12, Some U2sr) ∷
    (13, Some U2nc) ∷
    []

unfoldable pub state_at : ℕ → Option State
state_at number = rows number None numbered

-- Four bits in a number: the first weighs 8, the last 1.
abbrev pub bit : Bool → ℕ
bit set = cond set 1 0

unfoldable pub four_number : Bool → Bool → Bool → Bool → ℕ
four_number eight four two one = 8 * bit eight + 4 * bit four + 2 * bit two + bit one

-- 8 ORIG + 4 COMM + 2 D-ATT + 1 U-ATT.
unfoldable pub parameters_at : ℕ → Parameters
parameters_at n = record { orig = eqb (n / 8 % 2) 1; comm = eqb (n / 4 % 2) 1; datt = eqb (n / 2 % 2) 1; uatt = eqb (n % 2) 1 }

-- 16 T_pres + 8 T_MM-est + 4 T_term + 2 T_conn req + 1 T_no channel.
unfoldable pub timers_at : ℕ → Timers
timers_at n = record {
  mmest = eqb (n / 8 % 2) 1;
  term = eqb (n / 4 % 2) 1;
  connreq = eqb (n / 2 % 2) 1;
  nochannel = eqb (n % 2) 1;
  pres = eqb (n / 16 % 2) 1;
}

unfoldable pub timers_number : Timers → ℕ
timers_number t = 16 * bit t.pres + four_number t.mmest t.term t.connreq t.nochannel

-- What is remembered: 0 nothing, 2 U1, 3 U2, and of the sub-states of U2 8 U2sl, 9 U2wr, 11 U2ws, 12 U2sr. Any other number is none of these.
abbrev pub remembereds : List (ℕ × Remembered)
remembereds = (2, Remembered.U1) ∷ (3, Remembered.U2) ∷ (8, Remembered.U2sl) ∷ (9, Remembered.U2wr) ∷ (11, Remembered.U2ws) ∷ (12, Remembered.U2sr) ∷ []

unfoldable pub remembered_at : ℕ → Remembered
remembered_at number = rows number Remembered.Nothing remembereds

unfoldable pub is_remembered : ℕ → Bool
is_remembered n = (eqb n 0 || (eqb n 2 || eqb n 3)) || (eqb n 8 || (eqb n 9 || (eqb n 11 || eqb n 12)))

-- Which side chose the value: 0 neither, 1 us, 2 the cell.
abbrev pub choosers : List (ℕ × Chooser)
choosers = (1, Us) ∷ (2, Cell) ∷ []

unfoldable pub chooser_at : ℕ → Chooser
chooser_at number = rows number Neither choosers

-- What a group call keeps: 16 a value awaited + 8 a STATUS pending + 4 a termination request pending + which side chose the value.
unfoldable pub talk_at : ℕ → Talk
talk_at n = record {
  chooser = chooser_at (n % 4);
  termination = eqb (n / 4 % 2) 1;
  status = eqb (n / 8 % 2) 1;
  awaiting = eqb (n / 16 % 2) 1;
}

unfoldable pub talk_number : Talk → ℕ
talk_number k = 16 * bit k.awaiting + 8 * bit k.status + 4 * bit k.termination + chooser_number k.chooser

-- 3 is no side, and 32 weighs nothing.
unfoldable pub is_talk : ℕ → Bool
is_talk n = leb n 31 && leb (n % 4) 2

-- Parameters are a number below 16 and timers one below 32, octets 8 and 9 say what is remembered and what a group call keeps, and the last six octets are zero.
unfoldable pub is_kept : List ℕ → Bool
is_kept s =
    leb (get_or s 1 0) 15 &&
    (leb (get_or s 2 0) 31 &&
    (((is_remembered (get_or s 8 0) && is_talk (get_or s 9 0)) && (eqb (get_or s 10 0) 0 && eqb (get_or s 11 0) 0)) &&
    (eqb (get_or s 12 0) 0 && (eqb (get_or s 13 0) 0 && (eqb (get_or s 14 0) 0 && eqb (get_or s 15 0) 0)))))

-- The context of a state, and of the octets behind the state's.
unfoldable pub with_state : List ℕ → State → Context
with_state s state = record {
  state = state;
  parameters = parameters_at (get_or s 1 0);
  timers = timers_at (get_or s 2 0);
  value = get_or s 3 0;
  reference = record { first = get_or s 4 0; second = get_or s 5 0; third = get_or s 6 0; fourth = get_or s 7 0 };
  remembered = remembered_at (get_or s 8 0);
  talk = talk_at (get_or s 9 0);
}

-- The context that sixteen octets are. Any other octets are no context.
unfoldable pub context_of : List ℕ → Option Context
context_of s = cond (is_kept s) (option_map (with_state s) (state_at (get_or s 0 0))) None

-- The sixteen octets of a context.
unfoldable pub octets_of : Context → List ℕ
octets_of x =
    let r : Reference = x.reference in
    number_of x.state ∷
    parameters_number x.parameters ∷
    timers_number x.timers ∷
    x.value ∷
    r.first ∷ r.second ∷ r.third ∷ r.fourth ∷
    remembered_number x.remembered ∷
    talk_number x.talk ∷
    0 ∷ 0 ∷ 0 ∷ 0 ∷ 0 ∷ 0 ∷
    []
