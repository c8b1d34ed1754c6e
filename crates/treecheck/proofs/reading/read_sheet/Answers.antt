-- All that is left of the input, up to the limit.
use Rattle.treecheck.proofs.Streams.{all_taken}
use Rattle.treecheck.proofs.reading.read_sheet.Goals as goal

pub returns : goal.returns
returns g c =
    all_taken g.R.Read.remaining _ _ _ _ _ c.take.ensures.inner c.take.ensures.limit c.new-sheet.ensures.items
    c.in_ok-read_to_end.ensures.bytes
