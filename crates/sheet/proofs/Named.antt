-- Every statement and question of a sheet names variables below n, and a question is the one statement of its item.
use Rattle.std.specs.Prelude.{Option, Some, None, is_some, option_map, option_to_list, unwrap_or, get_or, Result, Ok, Err}
use Prim.Native.Nat.{ℕ, zero, suc}
use mathlib.Core.Bool.{true, false, true≢false, false≢true}
use mathlib.Core.List.{List, [], ◌∷◌, ◌++◌, map}
use mathlib.Core.Path.{◌≡◌, refl, ◌∙◌}
use Rattle.fields.specs.declared.numbers.Cursor.{Cursor}
use Rattle.fields.specs.declared.refusals.Place.{Place}
use Rattle.fields.specs.declared.refusals.Refusal.{Refusal}
use Rattle.fields.specs.Fields.{then_value, run_of}
use Rattle.fields.specs.Tests.{has, same}
use Rattle.fields.proofs.Extents.{Held, Any}
use Rattle.fields.proofs.Chains.{Of, after_field}
use Rattle.items.specs.declared.items.Item.{Item}
use Rattle.items.specs.declared.items.Statement.{Statement}
use Rattle.items.specs.Items.{items_of}
use Rattle.items.specs.Statements.{bit_of, statements_of, statement_of, Names, AllName}
use Rattle.items.specs.declared.paths.Path.{Path}
use Rattle.items.specs.Paths.{features_at}
use Rattle.items.specs.Questions.{holds, has_path, question_by, question_of, query_of, Asks, AllAsk}
use Rattle.items.proofs.Lawful.{Reads, one_bit, item_spans}
use Rattle.sheet.specs.declared.whole.Accepted.{Accepted}
use Rattle.sheet.specs.Sheets.{Named, sheet, read_sheet, all_statements, asks, sheet_at, sheet_of}

both : {n : ℕ} {xs ys : List Statement} → Of (AllName n) xs → Of (AllName n) ys → Of (AllName n) (xs ++ ys)
both {xs = []} p q = q
both {xs = x ∷ xs} p q = record { holds = (p.holds.0, (both {xs = xs} (record { holds = p.holds.1 }) q).holds) }

-- what a field states, where it is there, names variables below n
module _ {T : Type 0} {n : ℕ} {Fit : T → Type 0} (make : T → Statement) (names : (v : T) → Fit v → Names n (make v)) where
  by_stated : (value : Option T) → Held Fit value → Of (AllName n) (option_to_list (option_map make value))
  by_stated (Some v) h = record { holds = (names v h, tt) }
  by_stated None h = record { holds = tt }

  by_first : (value : Option T) (other : Statement) → Held Fit value → Of (Names n) other
      → Of (Names n) (unwrap_or (option_map make value) other)
  by_first (Some v) other h p = record { holds = names v h }
  by_first None other h p = p

anything : {T : Type 0} (value : Option T) → Held Any value
anything (Some v) = tt
anything None = tt

module _ {place : Place} {s : List ℕ} {n : ℕ} {c next : Cursor} (x : Item) where
  record_names : Reads place s n c x next → Of (AllName n) (statements_of x)
  unfolding statements_of
  record_names r =
      both (by_stated _ (λ j h. (r.subject, h)) x.target r.target)
      (both (by_stated _ (λ j h. (r.subject, h)) x.partner r.partner)
      (both (by_stated _ (λ out h. (r.subject, h)) x.edge r.child)
      (by_stated _ (λ a h. r.subject) x.label (anything x.label))))

  statement_names : Reads place s n c x next → Of (Names n) (statement_of x)
  unfolding statement_of
  statement_names r =
      by_first _ (λ j h. (r.subject, h)) x.target _ r.target
      (by_first _ (λ j h. (r.subject, h)) x.partner _ r.partner
      (by_first _ (λ out h. (r.subject, h)) x.edge _ r.child
      (record { holds = r.subject })))

  -- what its question asks, of whatever path
  by_path : Reads place s n c x next → (path : Option Path) → Of (Asks n) (query_of s (question_by x path))
  by_path r (Some path) = record { holds = r.subject }
  by_path r None = record { holds = (statement_names r).holds }

  question_names : Reads place s n c x next → Of (Asks n) (asks s x)
  unfolding question_of
  question_names r = by_path r x.path

-- a field that is there, and one that is not
there : {T C : Type 0} (value : Option T) → is_some value ≡ true → ((v : T) → value ≡ Some v → C) → C
there (Some v) e on = on v refl
there None e on = absurd (false≢true e)

absent : {T : Type 0} (value : Option T) → is_some value ≡ false → value ≡ None
absent (Some v) e = absurd (true≢false e)
absent None e = refl

-- a question's item states one statement, its map is the bit of that kind, and whether this holds is what is asked; or it
-- states nothing, its map is 16, and its path is what is asked
pub data AsksOne (s : List ℕ) (c : Cursor) (x : Item) : Type 0 where
  statement : statements_of x ≡ statement_of x ∷ [] → get_or s c.at 0 ≡ bit_of (statement_of x)
      → asks s x ≡ holds (statement_of x) → AsksOne s c x
  path : (p : Path) → statements_of x ≡ [] → get_or s c.at 0 ≡ 16
      → asks s x ≡ has_path x.subject (features_at p.count s p.first) → AsksOne s c x

pub question_alone : {s : List ℕ} {n : ℕ} {c next : Cursor} (x : Item) → Reads Place.Question s n c x next → AsksOne s c x
unfolding statements_of statement_of question_of has same
question_alone x r =
    let p₁ = absent x.target in
    let p₂ = absent x.partner in
    let p₄ = absent x.edge in
    let p₈ = absent x.label in
    let p₁₆ = absent x.path in
    one_bit r.map r.lawful
    (λ m. there x.target (rw m at r.has_target) λ v e.
    rw (e, p₂ (rw m at r.has_partner), p₄ (rw m at r.has_edge), p₈ (rw m at r.has_label), p₁₆ (rw m at r.has_path))
    (AsksOne.statement refl (r.map_is ∙ m) refl))
    (λ m. there x.partner (rw m at r.has_partner) λ v e.
    rw (p₁ (rw m at r.has_target), e, p₄ (rw m at r.has_edge), p₈ (rw m at r.has_label), p₁₆ (rw m at r.has_path))
    (AsksOne.statement refl (r.map_is ∙ m) refl))
    (λ m. there x.edge (rw m at r.has_edge) λ v e.
    rw (p₁ (rw m at r.has_target), p₂ (rw m at r.has_partner), e, p₈ (rw m at r.has_label), p₁₆ (rw m at r.has_path))
    (AsksOne.statement refl (r.map_is ∙ m) refl))
    (λ m. there x.label (rw m at r.has_label) λ v e.
    rw (p₁ (rw m at r.has_target), p₂ (rw m at r.has_partner), p₄ (rw m at r.has_edge), e, p₁₆ (rw m at r.has_path))
    (AsksOne.statement refl (r.map_is ∙ m) refl))
    (λ m. there x.path (rw m at r.has_path) λ v e.
    rw (p₁ (rw m at r.has_target), p₂ (rw m at r.has_partner), p₄ (rw m at r.has_edge), p₈ (rw m at r.has_label), e)
    (AsksOne.path v refl (r.map_is ∙ m) refl))

module _ (s : List ℕ) (n : ℕ) where
  records_name : (k : ℕ) (c : Cursor) → Of (λ xs. AllName n (all_statements xs)) (items_of k Place.Record s n c)
  unfolding run_of
  records_name zero c = record { holds = tt }
  records_name (suc k) c =
      after_field (item_spans Place.Record s n c) (λ q h. record { holds = tt }) λ x next r.
      record { holds = (both (record_names x r) (record { holds = (records_name k next).holds })).holds }

  questions_name : (k : ℕ) (c : Cursor) → Of (λ xs. AllAsk n (map (asks s) xs)) (items_of k Place.Question s n c)
  unfolding run_of
  questions_name zero c = record { holds = tt }
  questions_name (suc k) c =
      after_field (item_spans Place.Question s n c) (λ q h. record { holds = tt }) λ x next r.
      record { holds = ((question_names x r).holds, (questions_name k next).holds) }

pub sheet_named : (s : List ℕ) → Named (sheet_of s)
unfolding sheet_of sheet_at
sheet_named s = go (read_sheet s)
  where
    go : (r : Result Accepted Refusal) → Named (then_value r (λ q. sheet 0 [] []) (sheet_at s))
    go (Ok a) =
        record {
          stated = (records_name s a.header.variables a.header.records a.header.first).holds;
          asked = (questions_name s a.header.variables a.header.questions a.asked).holds;
        }
    go (Err r) = record { stated = tt; asked = tt }
