-- `types::collect` meets its contract: each part leaves what the rules say of the sheet.
-- Assumes nothing.
use Rattle.types.proofs.Whole.{held_none, named_start, whole}
use Rattle.types.proofs.collect.Goals as goal

pub visit_items-count-requires : goal.visit_items-count-requires
visit_items-count-requires c = held_none c.requires c.clear.ensures

pub collect_names-requires : goal.collect_names-requires
collect_names-requires c = named_start c.requires

pub returns : goal.returns
returns c =
    whole c.requires c.clear.ensures c.visit_items-count.ensures c.visit_items-count.auto.scratch c.collect_names.ensures
    c.required_trivial_reasons.ensures c.required_unpin_reasons-unpin.ensures
