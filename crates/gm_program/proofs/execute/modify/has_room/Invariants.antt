use Rattle.std.proofs.Common.{◌≡◌, ◌+◌, ◌-◌, length, take}
use Rattle.gm_engine_rows.specs.Exchange.{old_keys}
use Rattle.gm_program.proofs.execute.modify.has_room.Given as goal

abbrev pub invariant-exchanges : goal.invariant-exchanges
invariant-exchanges l =
    l.over ≡ (l.rows + l.puts) -
    (2000000 + length (old_keys l.of (take l.exchange-index l.exchanges)))
