use Rattle.signed_links.proofs.Signed.{imports_signed as proved}
use Rattle.signed_links.proofs.laws.imports_signed.Goals as goal

pub returns : goal.returns
returns c = record { imports = proved }
