-- What the child adds; or nothing, by what is asked first.
use Rattle.std.proofs.Common.{sym, ap, ◌∙◌}
use Rattle.fields.specs.Tests.{same}
use Rattle.rows.specs.Rows.{in_row}
use Rattle.paths.proofs.Children.{adds_child, other_feature, other_subject, known_child}
use Rattle.paths.proofs.sets.with_child.Goals as goal
use Rattle.paths.proofs.sets.with_child.Goals.{else-eq-via-then-eq+then-has_member+else-not-has_member}
use Rattle.paths.proofs.sets.with_child.Goals.{else-eq-via-then-eq+else-has_member, else-eq-via-else-eq}

pub returns-then-not-has_member : goal.returns-then-not-has_member
unfolding same
returns-then-not-has_member c =
    adds_child (sym c.eq.ensures ∙ c.if-eq.true)
    (ap (in_row c.args.set) (sym c.index.ensures) ∙ sym c.has_member.ensures ∙ c.if-has_member.true)
    (rw c.index-child.ensures at c.with_below.ensures)

pub returns-else-eq : goal.returns-else-eq
unfolding same
returns-else-eq c =
    elim c.else-eq.branch [
      | else-eq-via-then-eq+then-has_member+else-not-has_member w ↦
          known_child c.requires.downward
          (ap (in_row c.args.next) (sym c.index-child.ensures) ∙ sym w.has_member-then-has_member.ensures
          ∙ w.if-not-has_member.false)
      | else-eq-via-then-eq+else-has_member w ↦
          other_subject (ap (in_row c.args.set) (sym w.index.ensures) ∙ sym w.has_member.ensures ∙ w.if-has_member.false)
      | else-eq-via-else-eq w ↦ other_feature (sym c.eq.ensures ∙ w.if-eq.false)
    ]
