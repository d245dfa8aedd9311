-- `read` is the reader of docs/SHEET.md: one law of `ReadLaws` for each way out.
-- Assumes nothing.
use Rattle.std.proofs.Common.{sym, ◌∙◌}
use Rattle.std.proofs.lemmas.Result.{err_from_is_err_and}
use Rattle.sheet.proofs.ReadLaws.{read-2, read-3, read-4, read-4', read-5, read-rows, read-items, read-fine, read-over}
use Rattle.sheet.proofs.read.read.Goals as goal

pub returns-then-n-gt-BYTES : goal.returns-then-n-gt-BYTES
returns-then-n-gt-BYTES c = c.refusal.ensures ∙ read-2 _ c.if-n-gt-BYTES.true

pub returns-then-n-lt4 : goal.returns-then-n-lt4
returns-then-n-lt4 c = c.refusal-then-n-lt4.ensures ∙ read-3 _ c.if-n-gt-BYTES.false c.if-n-lt4.true

pub returns-then-t-gt-ROWS : goal.returns-then-t-gt-ROWS
returns-then-t-gt-ROWS c = c.refusal-then-t-gt-ROWS.ensures ∙ read-4 _ c.if-n-gt-BYTES.false c.if-n-lt4.false c.pair_at-t.ensures c.if-t-gt-ROWS.true

pub returns-then-a-gt-ITEMS : goal.returns-then-a-gt-ITEMS
returns-then-a-gt-ITEMS c =
    c.refusal-then-a-gt-ITEMS.ensures ∙ read-4' _ c.if-n-gt-BYTES.false c.if-n-lt4.false c.pair_at-t.ensures c.if-t-gt-ROWS.false c.pair_at-a.ensures
    c.if-a-gt-ITEMS.true

pub returns-then-n-contents : goal.returns-then-n-contents
returns-then-n-contents c =
    c.refusal-then-n-contents.ensures
    ∙ read-5 _ c.if-n-gt-BYTES.false c.if-n-lt4.false c.pair_at-t.ensures c.if-t-gt-ROWS.false c.pair_at-a.ensures c.if-a-gt-ITEMS.false c.if-n-contents.true

pub returns-in_err-bodies : goal.returns-in_err-bodies
returns-in_err-bodies c =
    let p = err_from_is_err_and c.from_residual.result c.from_residual.ensures.1 in
    rw (p.1, p.2) (sym c.in_err-bodies.was ∙ read-rows _ c.if-n-gt-BYTES.false c.if-n-lt4.false c.pair_at-t.ensures c.if-t-gt-ROWS.false
    c.pair_at-a.ensures c.if-a-gt-ITEMS.false c.if-n-contents.false
    c.all_rows.ensures c.in_err-bodies.was)

pub returns-in_err-end : goal.returns-in_err-end
returns-in_err-end c =
    let p = err_from_is_err_and c.from_residual-in_err-end.result c.from_residual-in_err-end.ensures.1 in
    rw (p.1, p.2) (sym c.in_err-end.was ∙ read-items _ c.if-n-gt-BYTES.false c.if-n-lt4.false c.pair_at-t.ensures c.if-t-gt-ROWS.false
    c.pair_at-a.ensures c.if-a-gt-ITEMS.false c.if-n-contents.false
    c.all_rows.ensures c.in_ok-bodies.was c.all_items.ensures c.in_err-end.was)

pub returns-then-end-n : goal.returns-then-end-n
returns-then-end-n c =
    read-fine _ c.if-n-gt-BYTES.false c.if-n-lt4.false c.pair_at-t.ensures c.if-t-gt-ROWS.false c.pair_at-a.ensures c.if-a-gt-ITEMS.false c.if-n-contents.false
    c.all_rows.ensures c.in_ok-bodies.was c.all_items.ensures c.in_ok-end.was c.if-end-n.true

pub returns-else-end-n : goal.returns-else-end-n
returns-else-end-n c =
    c.refusal-else-end-n.ensures ∙ read-over _ c.if-n-gt-BYTES.false c.if-n-lt4.false c.pair_at-t.ensures c.if-t-gt-ROWS.false c.pair_at-a.ensures
    c.if-a-gt-ITEMS.false c.if-n-contents.false
    c.all_rows.ensures c.in_ok-bodies.was c.all_items.ensures c.in_ok-end.was c.if-end-n.false
