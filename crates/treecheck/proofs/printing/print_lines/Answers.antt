-- One block more is written, or a beginning of it.
use Rattle.lines.proofs.Following.{block_next, block_parts}
use Rattle.treecheck.proofs.Streams.{appends_more, failed}
use Rattle.treecheck.proofs.printing.print_lines.Goals as goal

pub loop-next-preserved : goal.loop-next-preserved
loop-next-preserved g c =
    appends_more _ _ _ _ _ _ c.loop-next.invariant c.in_ok-write_bytes.ensures (block_next c.write-block.ensures)

pub returns-in_err-write_bytes : goal.returns-in_err-write_bytes
returns-in_err-write_bytes g c =
    failed _ _ _ _ _ _ _ c.from_residual.result c.from_residual.ensures.0 (block_parts c.write-block.ensures)
    c.loop-next.invariant c.in_err-write_bytes.ensures
