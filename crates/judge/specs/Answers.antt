-- The judge's answer: 8 and 12 from one walk, and the held writes with nothing behind them.
use Rattle.std.specs.Prelude.{Result, Ok, Err}
use Rattle.reason.specs.declared.Reason.{Reason}
use Rattle.reason.specs.declared.Reason.TheVariants.{Unreadable, StateUnfit}
use Rattle.layout.specs.Rack.{rack_of}
use Rattle.walk.specs.Walk.{Reading, readable, unreadable}
use Rattle.state.specs.declared.State.{State}
use Rattle.state.specs.Lists.{pick, listed, holding, no_held}
use Rattle.judge.specs.declared.Judged.{Judged}
use Rattle.judge.specs.Fits.{fits}

abbrev pub judged_of : Reading → State → Result Judged Reason
judged_of unreadable s = Err Unreadable
judged_of (readable g es) s =
    pick (fits es s)
    (Ok (record { ring = g; held = rack_of no_held (holding es (listed s)) }))
    (Err StateUnfit)
