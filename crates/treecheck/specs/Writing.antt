-- What is written, also where reading or writing fails.
use Rattle.std.specs.Prelude.{◌≡◌, ℕ, take, List, Option, IfSome, Result, Ok, Err}
use Rattle.std.specs.List.{concat}
use Rattle.std.specs.Io.KnownBytes.{Appends}
use Rattle.lines.specs.Lines.{printed}
use Rattle.treecheck.specs.declared.reporting.Failure.{Failure}

-- known bytes grow by a beginning of a text
abbrev pub Begins : Option (List ℕ) → Option (List ℕ) → List ℕ → Type 0
Begins old new text = (k : ℕ) × Appends old new (take k text)

-- known bytes grow by a text, or where a write failed by a beginning of it
abbrev pub AppendsOrBegins : {E : Type 0} → Option (List ℕ) → Option (List ℕ) → List ℕ → Result (Unit {0}) E → Type 0
AppendsOrBegins old new text (Ok done) = Appends old new text
AppendsOrBegins old new text (Err error) = Begins old new text

-- of a known input all lines are written; where writing failed a beginning of them, and where reading failed nothing
abbrev pub Reported : {W : Type 0} → (W → Option (List ℕ)) → Option (List ℕ) → W → W → Result (Unit {0}) Failure → Type 0
Reported contents input old new (Ok done) =
    IfSome input λ b. Appends (contents old) (contents new) (concat (printed b))
Reported contents input old new (Err (Failure.Writing error)) =
    IfSome input λ b. Begins (contents old) (contents new) (concat (printed b))
Reported contents input old new (Err (Failure.Reading error)) = new ≡ old
