-- One more run joins the ends of its kind.
use Rattle.wrp_calib.proofs.Adding.{Adds-reference, Adds-straight, Adds-swapped}
use Rattle.wrp_calib.proofs.calibration.Calib.add.Goals as goal

pub returns-in-Ref : goal.returns-in-Ref
returns-in-Ref c =
    Adds-reference _ c.args.t.now _ _ _ _ _ _ _ c.in-Ref.is c.self.view_is (c.of_run-run.ensures.value c.args.kind) c.join.ensures.value

pub returns-in-Straight : goal.returns-in-Straight
returns-in-Straight c =
    Adds-straight _ c.args.t.now _ _ _ _ _ _ _ c.in-Straight.is c.self.view_is (c.of_run-run.ensures.value c.args.kind) c.join-in-Straight.ensures.value

pub returns-in-Swapped : goal.returns-in-Swapped
returns-in-Swapped c =
    Adds-swapped _ c.args.t.now _ _ _ _ _ _ _ c.in-Swapped.is c.self.view_is (c.of_run-run.ensures.value c.args.kind) c.join-in-Swapped.ensures.value
