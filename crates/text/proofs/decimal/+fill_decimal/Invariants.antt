-- The proof of the cycle of calls {fill_decimal}: the measure is the places that are left.
use Rattle.text.proofs.decimal.+fill_decimal.Given as goal

abbrev pub decreases-fill_decimal : goal.decreases-fill_decimal
decreases-fill_decimal l = l.places
