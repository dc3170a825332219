-- The kind of a step that the code reads, from its number.
use Rattle.std.specs.Prelude.{cond, ℕ, eqb, Result, Ok, Err}
use Rattle.dpa.specs.declared.refusal.Refusal.{Refusal}
use Rattle.dpa.specs.declared.refusal.Refusal.TheVariants.{StepKind}
use Rattle.step.specs.declared.kind.Kind.{Kind}
use Rattle.step.specs.declared.kind.Kind.TheVariants.{Set, Raise, Lower, WriteRam, WriteEeprom}
use Rattle.step.specs.Step.{set_kind, raise_kind, lower_kind, ram_kind, eeprom_kind}

-- other numbers are no kind: refusal 81
abbrev pub kind_of : ℕ → Result Kind Refusal
kind_of k =
    cond (eqb k set_kind) (Ok Set)
    (cond (eqb k raise_kind) (Ok Raise)
    (cond (eqb k lower_kind) (Ok Lower)
    (cond (eqb k ram_kind) (Ok WriteRam)
    (cond (eqb k eeprom_kind) (Ok WriteEeprom)
    (Err StepKind)))))
