-- GSM 04.69, 9.4.6, table 9.7: <state attributes> ::= DA UA COMM OI, bits 4 to 1.
use Rattle.std.specs.Prelude.{ℕ, ◌+◌, ◌/◌, ◌%◌, Bool, cond, eqb}
use Rattle.codes.specs.declared.attributes.Parameters.{Parameters}

unfoldable pub parameters_of : ℕ → Parameters
parameters_of half = record {
  orig = eqb (half % 2) 1;  -- OI, bit 1
  comm = eqb (half / 2 % 2) 1;  -- COMM, bit 2
  datt = eqb (half / 8 % 2) 1;  -- DA, bit 4
  uatt = eqb (half / 4 % 2) 1;  -- UA, bit 3
}

-- A bit that is set weighs this much, one that is not 0.
unfoldable pub weighs : Bool → ℕ → ℕ
weighs set weight = cond set weight 0

-- The table read the other way.
unfoldable pub attributes_of : Parameters → ℕ
attributes_of p = weighs p.datt 8 + weighs p.uatt 4 + weighs p.comm 2 + weighs p.orig 1

-- Document 01, "The log": "parameters after as 8 ORIG + 4 COMM + 2 D-ATT + U-ATT".
unfoldable pub parameters_number : Parameters → ℕ
parameters_number p = weighs p.orig 8 + weighs p.comm 4 + weighs p.datt 2 + weighs p.uatt 1
