-- Heads of arms of a `pick` and of handlers, without how they lie in memory.
use Rattle.limbo_typed.specs.Typed.{PickHead, HandlerHead}
use Rattle.limbo_heads.specs.declared.picks.PickStart as code_pick
use Rattle.limbo_heads.specs.declared.handlers.HandlerStart as code_handler

abbrev pub view_pick_start : code_pick.PickStart → PickHead
view_pick_start h = record { variants = h.variants.items; variable = h.variable }

abbrev pub view_handler_start : code_handler.HandlerStart → HandlerHead
view_handler_start h = record { patterns = h.patterns.items; variable = h.variable }
