-- Lines that are written one behind the other, as many as fit.
use Rattle.std.specs.Prelude.{get_or, drop}
use Rattle.std.specs.List.{concat}
use Rattle.std.proofs.lemmas.List.{length-append, append_assoc, append-nil, drop_more, drop_all, drop-drop, take_at, drop_at}
use Rattle.std.proofs.lemmas.List.Folds.{concat-append}
use Prim.Native.Nat.{ℕ, ◌+◌, ◌-◌, ◌<◌, ◌≤◌}
use lib.ListN.{length}
use mathlib.Core.List.{List, [], ◌∷◌, ◌++◌}
use mathlib.Core.Path.{◌≡◌, refl, sym, ap, ◌∙◌}
use native.Mathlib.Omega.{arith}
use borrow.Rule.Slice.PartMut.{put_mid}
use Rattle.fields.specs.Tests.{pick}
use Rattle.fields.proofs.Choice.{is_less, not_less}
use Rattle.lines.specs.Blocks.{line_room, fitting, block, BlockTold}

-- the first line fits or does not
pub fits : (room : ℕ) (line : List ℕ) (lines : List (List ℕ)) → length line ≤ room
    → fitting room (line ∷ lines) ≡ line ∷ fitting (room - length line) lines
unfolding fitting pick
fits room line lines h = rw (not_less room (length line) h) refl

pub too_long : (room : ℕ) (line : List ℕ) (lines : List (List ℕ)) → room < length line → fitting room (line ∷ lines) ≡ []
unfolding fitting pick
too_long room line lines h = rw (is_less room (length line) h) refl

-- one more line behind others
joined : (lines : List (List ℕ)) (line : List ℕ) → concat (lines ++ line ∷ []) ≡ concat lines ++ line
joined lines line = concat-append lines (line ∷ []) ∙ ap (λ x. concat lines ++ x) (append-nil line)

-- these lines from line k on are written over the first bytes of an array, and behind them the next ones fit
pub record Writing (lines : List (List ℕ)) (k : ℕ) (out now : List ℕ) (count next : ℕ) : Type 0 where
  pub done : List (List ℕ)
  pub reached : next ≡ k + length done
  pub within : count ≤ length out
  pub size : count ≡ length (concat done)
  pub bytes : now ≡ concat done ++ drop count out
  pub others : block (length out) k lines ≡ done ++ block (length out - count) next lines

module _ (lines : List (List ℕ)) (k : ℕ) (out : List ℕ) where
  pub nothing_written : Writing lines k out out 0 k
  nothing_written =
      let whole : length out - 0 ≡ length out = omega arith in
      record {
        done = [];
        reached = omega arith;
        within = omega arith;
        size = refl;
        bytes = refl;
        others = rw whole refl;
      }

  module _ {now : List ℕ} {count next : ℕ} (w : Writing lines k out now count next) where
    -- with one line more
    module _ (line : List ℕ) (there : next < length lines) (is : get_or lines next [] ≡ line) where
      from_here : drop next lines ≡ line ∷ drop (next + 1) lines
      from_here = drop_more lines next [] there ∙ ap (λ x. x ∷ drop (next + 1) lines) is

      pub line_written : length line ≤ length out - count
          → Writing lines k out (put_mid count (count + length line - count) now line) (count + length line) (next + 1)
      line_written room =
          let line_alone : count + length line - count ≡ length line = omega arith in
          let room_left : length out - count - length line ≡ length out - (count + length line) = omega arith in
          record {
            done = w.done ++ line ∷ [];
            reached = omega (arith, w.reached, length-append w.done (line ∷ []));
            within = omega (arith, room, w.within);
            size = omega (arith, w.size, ap length (joined w.done line), length-append (concat w.done) line);
            bytes =
                rw (
                  line_alone,
                  w.bytes,
                  take_at (concat w.done) (drop count out) count (sym w.size),
                  drop_at (concat w.done) (drop count out) count (sym w.size),
                  drop-drop (length line) count out,
                  joined w.done line,
                )
                (sym (append_assoc (concat w.done) line (drop (count + length line) out)));
            others =
                w.others
                ∙ ap (λ x. w.done ++ x) (
                ap (fitting (length out - count)) from_here ∙ fits (length out - count) line (drop (next + 1) lines) room
                ∙ ap (λ x. line ∷ fitting x (drop (next + 1) lines)) room_left)
                ∙ sym (append_assoc w.done (line ∷ []) (block (length out - (count + length line)) (next + 1) lines));
          }

    -- these are all that fit
    all_that_fit : block (length out - count) next lines ≡ [] → (line_room ≤ length out → k < length lines → k < next)
        → BlockTold lines k out now (record { length = count; next = next })
    all_that_fit none moves =
        let e : block (length out) k lines ≡ w.done =
        w.others ∙ ap (λ x. w.done ++ x) none ∙ append-nil w.done in
        record {
          bytes = rw e w.bytes;
          length_is = rw e w.size;
          next_is = rw e w.reached;
          moves = moves;
        }

    -- as there is no room for the next
    pub no_room : (line : List ℕ) → next < length lines → get_or lines next [] ≡ line
        → length out - count < length line → length line ≤ line_room
        → BlockTold lines k out now (record { length = count; next = next })
    no_room line there is short most =
        all_that_fit
        (ap (fitting (length out - count)) (from_here line there is) ∙ too_long (length out - count) line _ short)
        (λ room more. moved w.done w.reached w.size room)
      where
        moved : (done : List (List ℕ)) → next ≡ k + length done → count ≡ length (concat done)
            → line_room ≤ length out → k < next
        moved [] reached size room = absurd (omega (arith, size, short, most, room))
        moved (x ∷ xs) reached size room = omega (arith, reached)

    -- or no next
    pub all_written : length lines ≤ next → BlockTold lines k out now (record { length = count; next = next })
    unfolding fitting
    all_written past =
        all_that_fit (ap (fitting (length out - count)) (drop_all next lines past)) (λ room more. omega (arith, past))
