-- `bridge::call` meets its contract: what `run` leaves and `store` makes of it is put together by Stored.antt.
-- Assumes nothing.
use Prim.Native.Nat.{ℕ, ◌*◌}
use lib.ListN.{length-replicate}
use Rattle.rules.specs.Numbers.{record_size, report_size}
use Rattle.bridge.proofs.Stored.{called}
use Rattle.bridge.proofs.call.Goals as goal

pub returns : goal.returns
returns c =
    called _ _ _ _ (length-replicate {A = ℕ} (record_size * report_size) 0) c.run-a.result c.run-a.new.scratch c.run-a.new.out c.store.new.list c.run-a.ensures
    c.store.ensures
