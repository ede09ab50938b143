-- Which replies are refusals.
use Rattle.std.specs.Prelude.{Option, Some}
use Rattle.gm_script.specs.declared.reply.Reply.{Reply}
use Rattle.gm_script.specs.declared.reply.Reply.TheVariants as reply

abbrev pub IsRefusal : Option Reply → Type 0
IsRefusal (Some (reply.Refusal code row)) = Unit {0}
IsRefusal _ = ⊥
