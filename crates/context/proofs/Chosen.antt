-- Where a state is entered: the code's way of choosing between the row and what was.
use mathlib.Core.Path.{◌≡◌, refl}
use mathlib.Core.Bool.{Bool, true, false, cond, not, ◌&&◌, ◌||◌}
use Rattle.codes.specs.declared.attributes.Parameters.{Parameters}
use Rattle.context.specs.Context.{set_or_kept}

chosen : (sets row before : Bool) → ((sets && row) || (not sets && before)) ≡ cond sets row before
chosen true true before = refl
chosen true false before = refl
chosen false row before = refl

abbrev chosen_of : (sets row before : Bool) → Bool
chosen_of sets row before = (sets && row) || (not sets && before)

pub all_chosen : (sets row before : Parameters)
    → record {
      orig = chosen_of sets.orig row.orig before.orig;
      comm = chosen_of sets.comm row.comm before.comm;
      datt = chosen_of sets.datt row.datt before.datt;
      uatt = chosen_of sets.uatt row.uatt before.uatt;
    } ≡ set_or_kept sets row before
all_chosen sets row before =
    rw (
      chosen sets.orig row.orig before.orig,
      chosen sets.comm row.comm before.comm,
      chosen sets.datt row.datt before.datt,
      chosen sets.uatt row.uatt before.uatt,
    )
