-- The number of each refusal. Document 01, "When the box says no", column "no.".
use Rattle.std.specs.Prelude.{ℕ}
use Rattle.reason.specs.declared.Reason.{Reason}
use Rattle.reason.specs.declared.Reason.TheVariants.{NodeZero, BadLength, PastFileEnd, NoRoom, NoNumber, FlushUnderWay, NotTheFlush, Unreadable, NoSuchPin, TooManyPins, BadBuffer, StateUnfit}

abbrev pub number_of : Reason → ℕ
number_of NodeZero = 1
number_of BadLength = 2
number_of PastFileEnd = 3
number_of NoRoom = 4
number_of NoNumber = 5
number_of FlushUnderWay = 6
number_of NotTheFlush = 7
number_of Unreadable = 8
number_of NoSuchPin = 9
number_of TooManyPins = 10
number_of BadBuffer = 11
number_of StateUnfit = 12
