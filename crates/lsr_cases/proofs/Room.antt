-- There is room for one reservation more.
use Rattle.std.specs.Prelude.{◌<◌, ◌≤◌, List, length}
use Rattle.std.specs.FinMap.Entries.{put}
use Rattle.std.proofs.Common.{arith}
use Rattle.sorted_rows.specs.RowsLaws.{length-put-le}
use Rattle.lsr_facts.specs.Orders.{key_cmp}
use Rattle.lsr_facts.specs.declared.key.Key.{Key}
use Rattle.lsr_facts.specs.declared.resv_fact.ResvFact.{ResvFact}

-- a put of one row makes no more than one row more
pub put_fits : (key : Key) (fact : ResvFact) (resvs : List (Key × ResvFact)) → length resvs < 1024 → length (put key_cmp key fact resvs) ≤ 1024
put_fits key fact resvs room = omega (arith, room, length-put-le key_cmp key fact resvs)
