-- So many bytes are written, and the others are left.
use Rattle.treecheck.proofs.Streams.{Sent}
use Rattle.treecheck.proofs.writing.write_bytes.Given as goal

abbrev pub invariant-loop : goal.invariant-loop
invariant-loop g l = Sent (g.W.Write.contents l.fn.out) (g.W.Write.contents l.out) l.fn.bytes l.rest
