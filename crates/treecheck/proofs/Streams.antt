-- What is known of the bytes of a reader up to a limit, and of a writer that takes one block after another.
use Rattle.std.specs.Prelude.{Option, Some, None, IfSome, Result, Ok, Err, IsErr, option_map, take, drop}
use Rattle.std.specs.declared.io.traits.Take.{Take}
use Rattle.std.specs.Io.KnownBytes.{Appends, Keeps}
use Rattle.std.specs.Io.Take.{take_limit, take_inner, take_remaining}
use Rattle.std.proofs.Math.Seq.{take-add, take-append-add}
use Rattle.std.proofs.lemmas.List.{append-nil, append_assoc, drop-drop, take-append-drop, take-append-le, take_min, take_rest, nil_from_length}
use Rattle.std.specs.List.{concat}
use Prim.Native.Nat.{ℕ, ◌+◌, ◌-◌, min}
use mathlib.Core.List.{List, [], ◌++◌}
use lib.ListN.{length}
use mathlib.Core.Bool.{false≢true}
use mathlib.Core.Path.{◌≡◌, refl, sym, ap, ◌∙◌}
use native.Mathlib.Omega.{arith}
use Rattle.sheet.specs.Sheets.{longest}
use Rattle.lines.specs.Lines.{printed}
use Rattle.lines.proofs.Beyond.{beyond_printed}
use Rattle.treecheck.specs.Writing.{Begins, AppendsOrBegins}

-- all that is read up to a limit
taken : (k : ℕ) (items : List ℕ) (left : Option (List ℕ))
    → IfSome (option_map (take k) left) (λ xs. items ≡ xs) → IfSome left (λ b. items ≡ take k b)
taken k items None h = h
taken k items (Some b) h = h

pub all_taken : {R : Type 0} (remaining : R → Option (List ℕ)) (input : R) (t : Take R) (k : ℕ) (start items : List ℕ)
    → take_inner t ≡ input → take_limit t ≡ k → start ≡ []
    → IfSome (take_remaining remaining t) (λ xs. items ≡ start ++ xs) → IfSome (remaining input) (λ b. items ≡ take k b)
all_taken remaining input t k start items inner limit none h = rw (← inner, ← limit) (taken _ _ _ (rw none at h))

-- nothing is written
pub appends_nothing : (known : Option (List ℕ)) → Appends known known []
appends_nothing None = _
appends_nothing (Some xs) = sym (append-nil xs)

-- one block more is
pub appends_more : (old now new : Option (List ℕ)) (xs ys zs : List ℕ) → Appends old now xs → Appends now new ys
    → xs ++ ys ≡ zs → Appends old new zs
appends_more None now new xs ys zs h h' e = _
appends_more (Some a) None new xs ys zs h h' e = absurd h
appends_more (Some a) (Some b) None xs ys zs h h' e = absurd h'
appends_more (Some a) (Some b) (Some c) xs ys zs h h' e =
    h' ∙ ap (λ x. x ++ ys) h ∙ append_assoc a xs ys ∙ ap (λ x. a ++ x) e

-- known bytes stay as they are
appends_kept : (old now new : Option (List ℕ)) (xs : List ℕ) → Appends old now xs → Keeps now new → Appends old new xs
appends_kept None now new xs h kept = _
appends_kept (Some a) None new xs h kept = absurd h
appends_kept (Some a) (Some b) None xs h kept = absurd kept
appends_kept (Some a) (Some b) (Some c) xs h kept = kept ∙ h

-- nothing of a text is written
pub none_taken : (old new : Option (List ℕ)) (text : List ℕ) → Keeps old new → Appends old new (take 0 text)
none_taken None new text kept = _
none_taken (Some a) None text kept = absurd kept
none_taken (Some a) (Some b) text kept = kept ∙ sym (append-nil a)

pub taken_none : (old new : Option (List ℕ)) (text : List ℕ) → Appends old new (take 0 text) → Keeps old new
taken_none None new text h = _
taken_none (Some a) None text h = absurd h
taken_none (Some a) (Some b) text h = h ∙ append-nil a

pub ruleset kept = (none_taken, taken_none)

-- so many of the bytes are written, and the others are left
pub record Sent (old now : Option (List ℕ)) (bytes rest : List ℕ) : Type 0 where
  pub count : ℕ
  pub sent : Appends old now (take count bytes)
  pub left : rest ≡ drop count bytes

pub none_sent : (old : Option (List ℕ)) (bytes : List ℕ) → Sent old old bytes bytes
none_sent old bytes = record { count = 0; sent = appends_nothing old; left = refl }

module _ {old now : Option (List ℕ)} {bytes rest : List ℕ} (s : Sent old now bytes rest) (new : Option (List ℕ)) where
  pub more_sent : (n : ℕ) → Appends now new (take n rest) → Sent old new bytes (take (length rest - n) (drop n rest))
  more_sent n h =
      rw (take_rest rest n)
      record {
        count = s.count + n;
        sent = appends_more old now new _ _ _ s.sent (rw s.left at h) (sym (take-add s.count n bytes));
        left = rw s.left (drop-drop n s.count bytes);
      }

  pub no_more_sent : Keeps now new → Begins old new bytes
  no_more_sent kept = (s.count, appends_kept old now new _ s.sent kept)

pub all_sent : {old now : Option (List ℕ)} {bytes rest : List ℕ} → Sent old now bytes rest → length rest ≡ 0
    → Appends old now bytes
all_sent {bytes = bytes} s none =
    let gone : drop s.count bytes ≡ [] = nil_from_length (drop s.count bytes) (rw s.left at none) in
    let all : take s.count bytes ≡ bytes =
    sym (append-nil (take s.count bytes)) ∙ rw (← gone) (take-append-drop s.count bytes) in
    rw all at s.sent

pub ruleset sending = (none_sent, more_sent, no_more_sent, all_sent)

-- a beginning of a block behind all before it is a beginning of the whole
module _ (old now new : Option (List ℕ)) (before bytes rest text : List ℕ) where
  begins : text ≡ before ++ (bytes ++ rest) → Appends old now before → Begins now new bytes → Begins old new text
  begins is sent (k, h) =
      let n = min k (length bytes) in
      let first : before ++ take k bytes ≡ take (length before + n) text =
      rw (is, take-append-add before (bytes ++ rest) n, take-append-le n bytes rest (omega arith), take_min k bytes) refl in
      (length before + n, appends_more old now new before (take k bytes) _ sent h first)

  pub failed : {E : Type 0} (r : Result (Unit {0}) E) → IsErr r → text ≡ before ++ (bytes ++ rest) → Appends old now before
      → Begins now new bytes → AppendsOrBegins old new text r
  failed (Err e) is_err is sent some = begins is sent some
  failed (Ok u) is_err is sent some = absurd (false≢true is_err)

-- what is printed of the bytes that are read is what is printed of the input
pub of_input : (P : List ℕ → Type 0) (left : Option (List ℕ)) (items : List ℕ)
    → IfSome left (λ b. items ≡ take (longest + 1) b) → P (concat (printed items)) → IfSome left (λ b. P (concat (printed b)))
of_input P None items is holds = _
of_input P (Some b) items is holds = rw (← beyond_printed b, ← is) holds
