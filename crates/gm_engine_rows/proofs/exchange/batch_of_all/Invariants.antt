use Rattle.std.specs.Prelude.{◌≡◌, take}
use Rattle.gm_engine_rows.specs.Exchange.{puts_of_all, removes_of_all}
use Rattle.gm_engine_rows.proofs.exchange.batch_of_all.Given as goal

abbrev pub invariant-exchanges : goal.invariant-exchanges
invariant-exchanges l =
    (l.removes.items ≡ removes_of_all l.of (take l.exchange-index l.exchanges))
    × (l.puts.items ≡ puts_of_all l.of (take l.exchange-index l.exchanges))
