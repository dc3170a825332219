-- What the check of a scene's steps returns, as its rule (`first_bad_from`) has it: the refusal of a bad step is its fault.
use Rattle.std.specs.Prelude.{Result, Ok, Err}
use Rattle.dpa.specs.Refusal.{refusal_number}
use Rattle.step.specs.declared.fault.BadStep.{BadStep}
use Rattle.step.specs.Step.{StepsCheck, AllGood, Bad}

abbrev pub check_seen : Result Unit BadStep → StepsCheck
check_seen (Ok _) = AllGood
check_seen (Err bad) = Bad bad.step (refusal_number bad.refusal)
