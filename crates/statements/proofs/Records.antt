-- The statements of the records read so far stand in the lists.
use Prim.Native.Nat.{ℕ, ◌+◌, ◌*◌, ◌-◌, ◌<◌, ◌≤◌}
use lib.ListN.{length}
use mathlib.Core.List.{List, [], ◌++◌, append-nil, append_assoc}
use mathlib.Core.Path.{◌≡◌, sym, ap, subst, ◌∙◌}
use native.Mathlib.Omega.{arith}
use Rattle.std.specs.Prelude.{Ok, Err}
use Rattle.fields.specs.declared.fields.Field.{Field}
use Rattle.fields.specs.declared.numbers.Cursor.{Cursor}
use Rattle.fields.specs.declared.refusals.Place.{Place}
use Rattle.fields.specs.declared.refusals.Refusal.{Refusal}
use Rattle.fields.specs.Limits.{most_variables, most_items}
use Rattle.sheet.specs.declared.headers.Header.{Header}
use Rattle.items.specs.declared.items.Item.{Item}
use Rattle.items.specs.declared.items.Statement.{Statement}
use Rattle.items.specs.Items.{item_at, items_end, items_of}
use Rattle.items.specs.Statements.{Names, AllName, statements_of}
use Rattle.fields.proofs.Runs.{run_on, run_reads, values_over, values_on}
use Rattle.sheet.specs.Sheets.{accepted, all_statements, sheet_of, sheet_at}
use Rattle.sheet.proofs.Theorems.{accepted_read, accepted_sheet, accepted_stated}
use Rattle.rules.proofs.Lists.{all_split, all_name_more}
use Rattle.selections.proofs.Stands.{no_selections, no_selections_stand}
use Rattle.labels.proofs.Kept.{no_labels}
use Rattle.derivation.proofs.Stands.{no_pairs, no_pairs_stand}
use Rattle.statements.specs.declared.lists.Lists.{Lists}
use Rattle.statements.specs.Lists.{AreEmpty, Stand, Putting, Put, Gathering, pairs_room}

-- with so many records left to read, from a cursor on
pub record Gathers (s : List ℕ) (n left : ℕ) (cursor : Cursor) (x : Lists) : Type 0 where
  pub few : n ≤ most_variables
  pub named : AllName n (sheet_of s).stated
  pub done : List Statement
  pub stand : Stand n done x
  pub rest : (sheet_of s).stated ≡ done ++ all_statements (items_of left Place.Record s n cursor)
  pub end : Cursor
  pub readable : items_end left Place.Record s n cursor ≡ Ok end
  pub pairs_fit : length x.pairs.items + 2 * left ≤ pairs_room
  pub selections_room : length x.selections.items + left ≤ most_items

-- before the first record
pub gathers_start : (s : List ℕ) (h : Header) (x : Lists) → AreEmpty x → Gathering s h
    → Gathers s h.variables h.records h.first x
unfolding sheet_at
gathers_start s h x empty g =
    let read = accepted_read s (accepted h g.asked) g.accepted in
    let is = accepted_sheet s (accepted h g.asked) g.accepted in
    let few = read.heads.few in
    let records = read.heads.records in
    record {
      few = few;
      named = accepted_stated s (accepted h g.asked) g.accepted;
      done = [];
      stand =
          record {
            lawful_pairs = rw empty.pairs (no_pairs _);
            pairs_stand = rw empty.pairs no_pairs_stand;
            lawful_selections = rw empty.selections (no_selections _ few);
            selections_stand = rw empty.selections (no_selections_stand _);
            labelled = rw empty.labels (no_labels _ few);
          };
      rest = ap (λ y. y.stated) is;
      end = g.asked;
      readable = read.records_end;
      pairs_fit = rw empty.pairs (omega (arith, records));
      selections_room = rw empty.selections (omega (arith, records));
    }

-- one record
module _ {s : List ℕ} {n left : ℕ} {cursor : Cursor} {x : Lists} (g : Gathers s n left cursor x) (more : 0 < left) where
  module _ {f : Field Item} (read : item_at Place.Record s n cursor ≡ Ok f) where
    split : (sheet_of s).stated
        ≡ g.done ++ (statements_of f.value ++ all_statements (items_of (left - 1) Place.Record s n f.next))
    split = g.rest ∙ ap (λ y. g.done ++ all_statements y) (values_on (item_at Place.Record s n) cursor left f more read)

    item_named : AllName n (statements_of f.value)
    item_named =
        let rest = all_statements (items_of (left - 1) Place.Record s n f.next) in
        let named = subst (AllName n) split g.named in
        (all_split (Names n) (statements_of f.value) rest
        (all_split (Names n) g.done (statements_of f.value ++ rest) named).1).0

    pub gathers_put : Putting (statements_of f.value) 2 1 x
    gathers_put =
        record {
          named = all_name_more g.few (statements_of f.value) item_named;
          pairs_fit = omega (arith, more, g.pairs_fit);
          selections_room = omega (arith, more, g.selections_room);
        }

    pub gathers_next : {y : Lists} → Put (statements_of f.value) 2 1 x y → Gathers s n (left - 1) f.next y
    gathers_next p =
        record {
          few = g.few;
          named = g.named;
          done = g.done ++ statements_of f.value;
          stand = p.stand n g.done item_named g.stand;
          rest = split ∙ sym (append_assoc g.done (statements_of f.value) _);
          end = g.end;
          readable = sym (run_on (item_at Place.Record s n) cursor left f more read) ∙ g.readable;
          pairs_fit = omega (arith, more, g.pairs_fit, p.more_pairs);
          selections_room = omega (arith, more, g.selections_room, p.more_selections);
        }

  pub none_refused : {r : Refusal} → item_at Place.Record s n cursor ≡ Err r → ⊥
  none_refused e = run_reads (item_at Place.Record s n) cursor g.end left _ more g.readable e

-- behind the last record
pub gathers_end : {s : List ℕ} {n left : ℕ} {cursor : Cursor} {x : Lists} → Gathers s n left cursor x → left ≤ 0
    → Stand n (sheet_of s).stated x
gathers_end {s} {n} {left} {cursor} g over =
    let e = g.rest ∙ ap (λ y. g.done ++ all_statements y) (values_over (item_at Place.Record s n) cursor left over)
    ∙ append-nil g.done in
    rw e g.stand
