-- Refused as judged, else checked in parts of the buffers, which are long enough.
use Rattle.std.proofs.Common.{sym}
use lib.Seq.{length-take-le}
use Rattle.engine.proofs.Whole.{checked_refused, facts_part, work_part, replies_part, parts_accepted, checked_accepted}
use Rattle.engine.proofs.checking.check_judged.Goals as goal

pub slice_bounds-check_accepted-end : goal.slice_bounds-check_accepted-end
slice_bounds-check_accepted-end c =
    facts_part _ _ _ _ (sym c.in-Ok.ensures) _ c.table_size-size.ensures

pub slice_bounds-check_accepted-end-in-Ok : goal.slice_bounds-check_accepted-end-in-Ok
slice_bounds-check_accepted-end-in-Ok c =
    sym (length-take-le _ _ (facts_part _ _ _ _ (sym c.in-Ok.ensures) _ c.table_size-size.ensures))

pub slice_bounds-check_accepted-end-in-Ok-2 : goal.slice_bounds-check_accepted-end-in-Ok-2
slice_bounds-check_accepted-end-in-Ok-2 c =
    work_part _ _ _ _ (sym c.in-Ok.ensures) _ c.table_size-size.ensures

pub slice_bounds-check_accepted-end-in-Ok-3 : goal.slice_bounds-check_accepted-end-in-Ok-3
slice_bounds-check_accepted-end-in-Ok-3 c =
    sym (length-take-le _ _ (work_part _ _ _ _ (sym c.in-Ok.ensures) _ c.table_size-size.ensures))

pub slice_bounds-check_accepted-end-in-Ok-4 : goal.slice_bounds-check_accepted-end-in-Ok-4
slice_bounds-check_accepted-end-in-Ok-4 c =
    replies_part _ _ _ _ (sym c.in-Ok.ensures) _ c.reply_count-count.ensures

pub slice_bounds-check_accepted-end-in-Ok-5 : goal.slice_bounds-check_accepted-end-in-Ok-5
slice_bounds-check_accepted-end-in-Ok-5 c =
    sym (length-take-le _ _ (replies_part _ _ _ _ (sym c.in-Ok.ensures) _ c.reply_count-count.ensures))

pub check_accepted-requires : goal.check_accepted-requires
check_accepted-requires c =
    parts_accepted _ _ _ _ (sym c.in-Ok.ensures) _ _ c.table_size-size.ensures c.reply_count-count.ensures

pub returns-in-Err : goal.returns-in-Err
returns-in-Err c = checked_refused (sym c.in-Err.ensures) c.refused.ensures

pub returns-in-Ok : goal.returns-in-Ok
returns-in-Ok c =
    checked_accepted _ _ _ _ (sym c.in-Ok.ensures) _ _ c.table_size-size.ensures c.reply_count-count.ensures
    c.check_accepted.ensures
