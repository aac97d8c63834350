use Rattle.attributes.proofs.Naming.{telling}
use Rattle.attributes.proofs.attribute_at.Goals as goal

pub returns-then-to-cut : goal.returns-then-to-cut
returns-then-to-cut c = search telling

pub returns-in-Addr : goal.returns-in-Addr
returns-in-Addr c = search telling

pub returns-in-PreferEncrypt : goal.returns-in-PreferEncrypt
returns-in-PreferEncrypt c = search telling

pub returns-in-Keydata : goal.returns-in-Keydata
returns-in-Keydata c = search telling

pub returns-in-Ignored : goal.returns-in-Ignored
returns-in-Ignored c = search telling

pub returns-in-Unknown : goal.returns-in-Unknown
returns-in-Unknown c = search telling
