-- The lines of a printout: of whatever outcome, labels and reply bytes it holds.
use Rattle.std.specs.Prelude.{ℕ, zero, suc, List, map}
use Rattle.std.proofs.Math.Option.{Option}
use Rattle.rules.specs.declared.replies.Reply.{Reply}
use Rattle.labels.specs.Roots.{root_at}
use Rattle.lines.specs.declared.printout.Printout.{Printout}
use Rattle.lines.specs.Lines.{lines_of}

-- the reply of a reply byte; one that stands for none is told as open, which promises nothing
abbrev pub reply_told : ℕ → Reply
reply_told zero = Reply.Always
reply_told (suc zero) = Reply.Never
reply_told (suc (suc other)) = Reply.Open

abbrev pub labels_in : Printout → ℕ → Option ℕ
labels_in p = root_at p.labels

abbrev pub replies_in : Printout → List Reply
replies_in p = map reply_told p.replies.now

unfoldable pub lines_in : Printout → List (List ℕ)
lines_in p = lines_of p.variables p.outcome (labels_in p) (replies_in p)
