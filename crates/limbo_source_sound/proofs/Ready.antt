-- The context of a source is ready, and modules that are made of it are sound.
use Rattle.std.proofs.Common.{◌∙◌}
use Rattle.limbo_stated_sound.proofs.Whole.{functions_extend}
use Rattle.limbo_stated_sound.proofs.Modules.{checked_sound}
use Rattle.limbo_source_sound.specs.Laws.{ContextsAreReady, SourcesAreSound}
use Rattle.limbo_source_sound.proofs.Named.{named_throughout}
use Rattle.limbo_source_sound.proofs.Constant.{constants_typed, initials_sound}
use Rattle.limbo_source_sound.proofs.Through.{imports_through}
use Rattle.limbo_source_sound.proofs.Numbers.{owners_there, fd_there, system_there, is_outside}

pub are_ready : ContextsAreReady
are_ready top es m name c scopes table once is out = record {
  named = named_throughout top es m name c table is;
  constants = constants_typed es m name c is;
  imports = imports_through es m name c once is;
  owners = owners_there top es m name c table is;
  fd = fd_there top es m name c table is;
  system = system_there es m name c is;
  outside = is_outside es m name c is scopes out;
}

-- ---- modules

pub sources_sound : SourcesAreSound
sources_sound top es m name c e scopes ds gs checked table once is out so begin proper are made declared =
    let ready = are_ready top es m name c scopes table once is out in
    let same = made.globals ∙ (functions_extend name scopes c.functions ds c e gs are).globals in
    let initials = initials_sound es m once name c is so checked.initials checked begin same in
    checked_sound checked name scopes ds c e gs ready proper are made initials declared
