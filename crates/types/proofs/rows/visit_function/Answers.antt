-- `types::rows::visit_function` meets its contract.
-- Assumes nothing.
use native.Mathlib.Omega.{arith}
use Rattle.types.proofs.Walking.{held_after}
use Rattle.types.proofs.Showing.{place-small, args-below, args-inside, return-below, function-walk}
use Rattle.types.proofs.rows.visit_function.Goals as goal

pub overflow_add-at : goal.overflow_add-at
overflow_add-at c = omega (arith, c.return_place-at.ensures, place-small c.args.s.now (λ i. omega (arith, c.type_inv.s i)) c.args.i)

pub visit_list-requires : goal.visit_list-requires
visit_list-requires c = record {
  walk = c.requires.ready.walk;
  below = args-below _ c.requires.ready.walk.accepted _ c.requires.ready.below c.requires.is_function c.return_place-at.ensures;
  inside = args-inside _ c.requires.ready.walk.accepted _ c.requires.ready.below c.requires.is_function c.return_place-at.ensures;
}

pub visit_return-requires : goal.visit_return-requires
visit_return-requires c = record {
  walk = held_after c.requires.ready.walk c.visit_list.ensures;
  below = return-below _ c.requires.ready.walk.accepted _ c.requires.ready.below c.requires.is_function c.return_place-at.ensures c.return_at.ensures;
}

pub returns : goal.returns
returns c = function-walk _ c.return_place-at.ensures c.return_at.ensures c.visit_list.ensures c.visit_return.ensures
