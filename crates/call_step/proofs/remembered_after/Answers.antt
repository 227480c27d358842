-- `remembered_after` meets its contract, case by case.
use Rattle.call_step.proofs.remembered_after.Goals as goal

pub returns-in-Keep : goal.returns-in-Keep
returns-in-Keep c = rw c.in-Keep.is

pub returns-in-Remember : goal.returns-in-Remember
returns-in-Remember c = rw c.in-Remember.is c.remembering.ensures

pub returns-in-Forget : goal.returns-in-Forget
returns-in-Forget c = rw c.in-Forget.is
