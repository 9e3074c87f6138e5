-- The starred cases of document 01, "What the class will test", as entries of one list.
-- A case is what the paper prints and what the definitions give, both as numbers and bytes in the paper's order.
use Rattle.std.specs.Prelude.{ℕ, ◌+◌, ◌≡◌, List, [], ◌∷◌, ◌++◌, map, true, take, replicate, get_or}
use Rattle.layout.specs.Sizes.{slots_of}
use Rattle.layout.specs.declared.Ring.{Ring}
use Rattle.walk.specs.declared.Entry.{Entry}
use Rattle.walk.specs.Walk.{Reading, readable, unreadable, reading_of, last_of, Write}
use Rattle.store.specs.Store.{made, stored}
use Rattle.ring.specs.Ring.{tail_of}
use Rattle.state.specs.declared.State.{State}
use Rattle.state.specs.declared.Pin.{Pin}
use Rattle.state.specs.Lists.{no_pin, no_listed}
use Rattle.sheet.specs.Sheet.{sheet_of}
use Rattle.rules.specs.Call.{pin, unpin, report, start_flush, fill_read}
use Rattle.rules.specs.Outcome.{Outcome, outcome}

pub record Case : Type 0 where
  pub printed : List ℕ
  pub given : List ℕ

-- the shared claim: each case gives what is printed
abbrev pub Hold : List Case → Type 0
Hold cs = map (λ c. c.given) cs ≡ map (λ c. c.printed) cs

-- Lengths 1 and 232 take 1 slot, 233 takes 2, 4,072 takes 16, 4,073 and 4,096 take 17.
abbrev lengths : Case
lengths =
    record {
      printed = 1 ∷ 1 ∷ 2 ∷ 16 ∷ 17 ∷ 17 ∷ [];
      given = map slots_of (1 ∷ 232 ∷ 233 ∷ 4072 ∷ 4073 ∷ 4096 ∷ []);
    }

-- N = 18 made empty, in a buffer that held something: header 01 12 00 00 and twelve zeros.
abbrev empty18 : List ℕ
empty18 = made (replicate 4624 0xAA)

abbrev empty_header18 : Case
empty_header18 = record { printed = 0x01 ∷ 0x12 ∷ 0x00 ∷ 0x00 ∷ replicate 12 0; given = take 16 empty18 }

-- Then write node 7, handle 3, offset 2, byte 4E: number 1; header begins 01 12 00 01; slot 0 is as printed.
abbrev first_entry : Ring → List Entry → Entry
first_entry g es = record { number = last_of 0 es + 1; node = 7; handle = 3; offset = 2; length = 1; zero = 0; slot = tail_of g }

-- the number, and the ring's header and slot 0
abbrev first_written : List ℕ → Reading → List ℕ
first_written r unreadable = []
first_written r (readable g es) = (first_entry g es).number ∷ take 272 (stored r g.n (first_entry g es) (0x4E ∷ []))

abbrev first_write : Case
first_write =
    record {
      printed =
          1
          ∷ 0x01 ∷ 0x12 ∷ 0x00 ∷ 0x01 ∷ (replicate 12 0
          ++ (0x01 ∷ 0x00 ∷ 0x00 ∷ 0x00 ∷ 0x00 ∷ 0x00 ∷ 0x00 ∷ 0x00
          ∷ 0x07 ∷ 0x00 ∷ 0x00 ∷ 0x00
          ∷ 0x03 ∷ 0x00 ∷ 0x00 ∷ 0x00
          ∷ 0x02 ∷ 0x00 ∷ 0x00 ∷ 0x00
          ∷ 0x01 ∷ 0x00 ∷ 0x00 ∷ 0x00
          ∷ 0x4E ∷ replicate 231 0));
      given = first_written empty18 (reading_of empty18);
    }

-- Node 7: "AAAA" at 10, "BB" at 12, "C" at 14, "D" at 20. Sheet, whole, 30 bytes.
abbrev charted : ℕ → ℕ → List ℕ → Write
charted number offset bytes = record { number = number; node = 7; handle = 3; offset = offset; bytes = bytes }

abbrev thirty : Case
thirty =
    record {
      printed =
          0x02 ∷ 0x00 ∷ 0x00 ∷ 0x00 ∷ 0x07 ∷ 0x00 ∷ 0x00 ∷ 0x00
          ∷ 0x0A ∷ 0x00 ∷ 0x00 ∷ 0x00 ∷ 0x05 ∷ 0x00 ∷ 0x00 ∷ 0x00
          ∷ 0x14 ∷ 0x00 ∷ 0x00 ∷ 0x00 ∷ 0x01 ∷ 0x00 ∷ 0x00 ∷ 0x00
          ∷ 0x41 ∷ 0x41 ∷ 0x42 ∷ 0x42 ∷ 0x43 ∷ 0x44 ∷ [];
      given =
          sheet_of 7
          (charted 1 10 (0x41 ∷ 0x41 ∷ 0x41 ∷ 0x41 ∷ [])
          ∷ charted 2 12 (0x42 ∷ 0x42 ∷ [])
          ∷ charted 3 14 (0x43 ∷ [])
          ∷ charted 4 20 (0x44 ∷ [])
          ∷ []);
    }

abbrev pin_of : ℕ → ℕ → Pin
pin_of number mark = record { number = number; mark = mark; node = 7 }

-- a state that lists write 1 in one of the four states, with two pins at most
abbrev state_of : ℕ → ℕ → ℕ → Pin → Pin → State
state_of next flush phase p q =
    record {
      next = next;
      flush = flush;
      count = 1;
      writes = record { number = 1; phase = phase } ∷ replicate 253 no_listed;
      pins = p ∷ q ∷ replicate 14 no_pin;
    }

-- Shore "xyz", cached "Q" at 5, fill 8 bytes from 0, g = 3: r = 6, 78 79 7A 00 00 51, last two unchanged. From 6 with g = 0: r = 0.
abbrev cached18 : List ℕ
cached18 =
    0x01 ∷ 0x12 ∷ 0x00 ∷ 0x01 ∷ (replicate 12 0
    ++ (0x01 ∷ 0x00 ∷ 0x00 ∷ 0x00 ∷ 0x00 ∷ 0x00 ∷ 0x00 ∷ 0x00
    ∷ 0x07 ∷ 0x00 ∷ 0x00 ∷ 0x00
    ∷ 0x03 ∷ 0x00 ∷ 0x00 ∷ 0x00
    ∷ 0x05 ∷ 0x00 ∷ 0x00 ∷ 0x00
    ∷ 0x01 ∷ 0x00 ∷ 0x00 ∷ 0x00
    ∷ 0x51 ∷ (replicate 231 0 ++ replicate 4352 0xAA)))

-- the refusal and the values, then every byte of the buffer
abbrev lent : Outcome → List ℕ
lent o = o.said.refusal ∷ (o.said.values ++ o.buffer)

abbrev filled_from_zero : Case
filled_from_zero =
    record {
      printed = 0 ∷ 6 ∷ 0x78 ∷ 0x79 ∷ 0x7A ∷ 0x00 ∷ 0x00 ∷ 0x51 ∷ 0xAA ∷ 0xAA ∷ [];
      given = lent (outcome (fill_read 2 7 0 3 (0x78 ∷ 0x79 ∷ 0x7A ∷ replicate 5 0xAA)) cached18 (state_of 3 0 0 (pin_of 2 1) no_pin));
    }

abbrev filled_from_six : Case
filled_from_six =
    record {
      printed = 0 ∷ 0 ∷ replicate 8 0xAA;
      given = lent (outcome (fill_read 2 7 6 0 (replicate 8 0xAA)) cached18 (state_of 3 0 0 (pin_of 2 1) no_pin));
    }

-- Write 1, pin 2 (mark 1), flush 3, good: write 1 is Flushed and held. A pin 4 has mark 4. Unpin 2: write 1 leaves.
-- Each call of the case starts from the ring and the state that the one before it printed. Write 1 is 232 bytes long, so that it has no filler.

abbrev written18 : List ℕ
written18 =
    0x01 ∷ 0x12 ∷ 0x00 ∷ 0x01 ∷ (replicate 12 0
    ++ (0x01 ∷ 0x00 ∷ 0x00 ∷ 0x00 ∷ 0x00 ∷ 0x00 ∷ 0x00 ∷ 0x00
    ∷ 0x07 ∷ 0x00 ∷ 0x00 ∷ 0x00
    ∷ 0x03 ∷ 0x00 ∷ 0x00 ∷ 0x00
    ∷ 0x02 ∷ 0x00 ∷ 0x00 ∷ 0x00
    ∷ 0xE8 ∷ 0x00 ∷ 0x00 ∷ 0x00
    ∷ (replicate 232 0x4E ++ replicate 4352 0xAA)))

-- what is said; next, flush and count; the first write's state of the four; two pins' numbers and marks; the ring's head
abbrev shown : Outcome → List ℕ
shown o =
    o.said.refusal ∷ (o.said.values
    ++ (o.state.next ∷ o.state.flush ∷ o.state.count ∷ (get_or o.state.writes 0 no_listed).phase
    ∷ (get_or o.state.pins 0 no_pin).number ∷ (get_or o.state.pins 0 no_pin).mark
    ∷ (get_or o.state.pins 1 no_pin).number ∷ (get_or o.state.pins 1 no_pin).mark ∷ get_or o.ring 2 0 ∷ []))

abbrev pin_taken : Case
pin_taken = record { printed = 0 ∷ 2 ∷ 3 ∷ 0 ∷ 1 ∷ 0 ∷ 2 ∷ 1 ∷ 0 ∷ 0 ∷ 0 ∷ []; given = shown (outcome (pin 7) written18 (state_of 2 0 0 no_pin no_pin)) }

-- flush 3: a sheet of one piece, 16 + 232 bytes; the write is In flight
abbrev flush_started : Case
flush_started =
    record {
      printed = 0 ∷ 3 ∷ 248 ∷ 4 ∷ 3 ∷ 1 ∷ 1 ∷ 2 ∷ 1 ∷ 0 ∷ 0 ∷ 0 ∷ [];
      given = shown (outcome (start_flush 7 (replicate 248 0xAA)) written18 (state_of 3 0 0 (pin_of 2 1) no_pin));
    }

abbrev pin_holds : Case
pin_holds = record { printed = 0 ∷ 4 ∷ 0 ∷ 1 ∷ 2 ∷ 2 ∷ 1 ∷ 0 ∷ 0 ∷ 0 ∷ []; given = shown (outcome (report 3 true) written18 (state_of 4 3 1 (pin_of 2 1) no_pin)) }

abbrev pin_again : Case
pin_again = record { printed = 0 ∷ 4 ∷ 5 ∷ 0 ∷ 1 ∷ 2 ∷ 2 ∷ 1 ∷ 4 ∷ 4 ∷ 0 ∷ []; given = shown (outcome (pin 7) written18 (state_of 4 0 2 (pin_of 2 1) no_pin)) }

abbrev pin_ended : Case
pin_ended = record { printed = 0 ∷ 5 ∷ 0 ∷ 0 ∷ 0 ∷ 0 ∷ 0 ∷ 4 ∷ 4 ∷ 1 ∷ []; given = shown (outcome (unpin 2) written18 (state_of 5 0 2 (pin_of 2 1) (pin_of 4 4))) }

-- the list: later starred cases are added here
abbrev pub starred : List Case
starred = lengths ∷ empty_header18 ∷ first_write ∷ thirty ∷ filled_from_zero ∷ filled_from_six ∷ pin_taken ∷ flush_started ∷ pin_holds ∷ pin_again ∷ pin_ended ∷ []
