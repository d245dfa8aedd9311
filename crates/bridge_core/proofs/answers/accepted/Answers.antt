-- `bridge_core::answers::accepted` meets its contract: each set, each size and the reasons are what `names` ensures. Assumes nothing.
use Rattle.bridge_core.proofs.Parts.{accepted-is}
use Rattle.bridge_core.proofs.answers.accepted.Goals as goal

pub returns : goal.returns
returns c =
    accepted-is _ _ _ _ _ _
    (record { set = c.set_of-shared.ensures; count = c.size.ensures })
    (record { set = c.set_of-enums.ensures; count = c.size-2.ensures })
    (record { set = c.set_of-cxx.ensures; count = c.size-3.ensures })
    (record { set = c.set_of-rust.ensures; count = c.size-4.ensures })
    (record { set = c.set_of-aliases.ensures; count = c.size-5.ensures })
    (record { set = c.set_of-untrusted.ensures; count = c.size-6.ensures })
    (record { set = c.set_of-trivial.ensures; count = c.size-7.ensures })
    c.size-8.ensures
    c.reasons.ensures
