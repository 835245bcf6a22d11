-- The link has its ends, or it failed, or memory ran out.
use Rattle.std.proofs.Common.{ap}
use Rattle.wrp_config.specs.declared.network.Network.{Network}
use Rattle.wrp_loop.proofs.Leading.{not_begun, not_started, ready_first, started}
use Rattle.wrp_loop.proofs.looping.start_loop.Goals as goal

pub returns-in-Ok-clause-ready : goal.returns-in-Ok-clause-ready
returns-in-Ok-clause-ready g c = ready_first _ _ c.args.network.now c.args.course.now c.requires.valid c.requires.sim c.requires.none c.requires.begins

pub returns-in-Err-Failed-clause-ready : goal.returns-in-Err-Failed-clause-ready
returns-in-Err-Failed-clause-ready g c = ready_first _ _ c.args.network.now c.args.course.now c.requires.valid c.requires.sim c.requires.none c.requires.begins

pub returns-in-Err-Memory-clause-ready : goal.returns-in-Err-Memory-clause-ready
returns-in-Err-Memory-clause-ready g c = ready_first _ _ c.args.network.now c.args.course.now c.requires.valid c.requires.sim c.requires.none c.requires.begins

pub returns-in-Ok-clause-starts : goal.returns-in-Ok-clause-starts
returns-in-Ok-clause-starts g c = λ x b.
    started _ _ x c.args.network.now c.args.course.now c.end_count.result c.net.result.now.cfg _ _ c.requires.valid c.end_count.ensures (ap (λ (net : Network). net.cfg) c.net.ensures) c.in-Ok.ensures.tells b

pub returns-in-Err-Failed-clause-starts : goal.returns-in-Err-Failed-clause-starts
returns-in-Err-Failed-clause-starts g c = λ x b. not_started x _ _ c.in-Err-Failed.ensures.tells

pub returns-in-Err-Memory-clause-starts : goal.returns-in-Err-Memory-clause-starts
returns-in-Err-Memory-clause-starts g c = λ x b. not_begun x _ _ c.in-Err-Memory.ensures.tells
