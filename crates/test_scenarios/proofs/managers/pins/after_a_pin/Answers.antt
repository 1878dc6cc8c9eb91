use Rattle.test_scenarios.proofs.managers.pins.after_a_pin.Goals as goal

-- what begins over the pin is of the manager whatever was committed since
pub begun_at-requires : goal.begun_at-requires
begun_at-requires c = record { own = c.one_write-first.ensures.kept _ (c.in_ok-pin.ensures 1) }

pub begun_at-requires-2 : goal.begun_at-requires-2
begun_at-requires-2 c =
    record { own = c.decided-second.ensures.kept _ (c.one_write-first.ensures.kept _ (c.in_ok-pin.ensures 2)) }
