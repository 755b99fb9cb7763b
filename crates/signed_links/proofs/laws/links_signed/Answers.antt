use Rattle.signed_links.proofs.Signed.{links_signed as proved}
use Rattle.signed_links.proofs.laws.links_signed.Goals as goal

pub returns : goal.returns
returns c = record { links = proved }
