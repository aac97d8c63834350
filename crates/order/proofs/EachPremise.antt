-- Why C11 asks that messages agree: two messages in both orders. Assumes nothing.
--     direct_differs    two direct keys at one date: the last one stands
--     gossip_differs    so does the last of two gossip keys
use Prim.Native.Nat.{ℕ}
use mathlib.Core.Path.{◌≡◌, refl}
use mathlib.Core.Bool.{false}
use mathlib.Core.List.{List, [], ◌∷◌}
use Rattle.std.specs.Prelude.{Some, None}
use Rattle.octets.specs.Octets.{ascii, same_octets}
use Rattle.octets.specs.Options.{or_else}
use Rattle.heads.specs.Entry.{newcomer, seen_by, with_direct, with_gossip}
use Rattle.advice.specs.Advice.{direct_of, gossip_of, target_by, target_of}
use Rattle.update.specs.Update.{stays, taking, above, updated, heard}
use Rattle.update.specs.Message.{Message, entry_put, entry_heard, entry_after}

abbrev ann : List ℕ
ann = ascii "ann@a.example"

abbrev bob : List ℕ
bob = ascii "bob@b.example"

-- a message of Ann's own with a key, and one of Bob's with gossip about her, both at the date 1000
abbrev keyed : List ℕ → Message
keyed key = record { sender = ann; date = 1000; direct = Some (record { timestamp = 1000; key = key; «mutual» = false }); gossip = [] }

abbrev telling : List ℕ → Message
telling key = record { sender = bob; date = 1000; direct = None; gossip = record { address = ann; key = key } ∷ [] }

-- the key to encrypt to for Ann, after two messages
unfoldable target_after : Message → Message → List ℕ
target_after m n = target_of (entry_after n ann (entry_after m ann None))

direct_differs : (target_after (keyed (ascii "one")) (keyed (ascii "two")) ≡ ascii "two") × (target_after (keyed (ascii "two")) (keyed (ascii "one")) ≡ ascii "one")
unfolding target_after entry_after entry_heard entry_put same_octets newcomer updated taking stays above seen_by with_direct target_of target_by direct_of gossip_of or_else
direct_differs = (refl, refl)

gossip_differs : (target_after (telling (ascii "one")) (telling (ascii "two")) ≡ ascii "two") × (target_after (telling (ascii "two")) (telling (ascii "one")) ≡ ascii "one")
unfolding target_after entry_after entry_heard entry_put same_octets newcomer heard taking stays above with_gossip target_of target_by direct_of gossip_of or_else
gossip_differs = (refl, refl)
