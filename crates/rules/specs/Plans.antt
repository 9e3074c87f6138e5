-- A call planned and not yet made: what it will say, the state it will give back, and its stores in the ring, which the host makes one by one. Document 02, Q-8.
use Rattle.std.specs.Prelude.{ℕ, Bool, true, false, List, map, Option, None, Some}
use Rattle.reason.specs.declared.Reason.{Reason}
use Rattle.layout.specs.declared.Ring.{Ring}
use Rattle.walk.specs.Walk.{reading_of}
use Rattle.ring.specs.Ring.{slot_after}
use Rattle.plan.specs.declared.Plan.{Plan}
use Rattle.plan.specs.Plan.{no_plan, head_plan, entry_plan}
use Rattle.state.specs.declared.State.{State}
use Rattle.state.specs.declared.Held.{Held}
use Rattle.state.specs.Moves.{good, reported}
use Rattle.state.specs.Pins.{slots_left}
use Rattle.rules.specs.Call.{Call, Kind, makes, reopens, writes, pins, unpins, asks_end, reports, starts, fills, takes_ticket, asks_ticket, asks_turn, ring_of, held_of}
use Rattle.rules.specs.Refusals.{refusal_of}
use Rattle.rules.specs.Outcome.{Said, new_entry, unpinned, outcome}

-- letting go: the head moves on past the slots of those that leave
abbrev pub go_plan : Ring → List Held → State → Plan
go_plan g hs s = head_plan g (slot_after g (slots_left s.pins hs))

abbrev pub report_plan : Bool → Ring → List Held → State → Plan
report_plan true g hs s = go_plan g (map (reported good) hs) s
report_plan false g hs s = no_plan

-- of a call that isn't refused; making a ring is excepted, and the others store nothing
abbrev pub plan_by : Kind → Call → Ring → List Held → State → Plan
plan_by makes c g hs s = no_plan
plan_by reopens c g hs s = no_plan
plan_by writes c g hs s = entry_plan g (new_entry g s.next c)
plan_by pins c g hs s = no_plan
plan_by unpins c g hs s = go_plan g hs (unpinned s c.number)
plan_by asks_end c g hs s = no_plan
plan_by reports c g hs s = report_plan c.good g hs s
plan_by starts c g hs s = no_plan
plan_by fills c g hs s = no_plan
plan_by takes_ticket c g hs s = no_plan
plan_by asks_ticket c g hs s = no_plan
plan_by asks_turn c g hs s = no_plan

abbrev pub unless_no : Option Reason → Plan → Plan
unless_no None p = p
unless_no (Some why) p = no_plan

unfoldable pub plan_of : Call → List ℕ → State → Plan
plan_of c r s = unless_no (refusal_of c r s) (plan_by c.kind c (ring_of (reading_of r)) (held_of (reading_of r) s) s)

pub record Planned : Type 0 where
  pub said : Said
  pub state : State
  pub plan : Plan

abbrev pub planned_by : Said → State → Plan → Planned
planned_by said s p = record { said = said; state = s; plan = p }

abbrev pub planned : Call → List ℕ → State → Planned
planned c r s = planned_by (outcome c r s).said (outcome c r s).state (plan_of c r s)
