-- SCOPE, page A: advice and target keys over entries. Which slots they stand in does not matter (C10).
--     patience, stale            35 days
--     direct_of, gossip_of       the keys of an entry that may be used
--     rated                      the advice for an entry before reply and preferences
--     raised, advice_for         the advice for a recipient
--     target_of                  the key to encrypt to
--     overall                    the advice for a whole list
--     is_disable, first_disable  how many recipients of a list are looked up
--     DisableAt                  where the first disable stands
--     advice_in, target_in       the advice and the key for an address, by what a table holds of it
--     advised, targets           the advice and the key for each address of a list
--     entries_for                what a table holds of each of them
use Rattle.std.specs.Prelude.{ℕ, suc, ◌+◌, ◌-◌, ◌≤◌, ◌≡◌, Bool, true, false, ◌&&◌, ◌||◌, List, [], ◌∷◌, map, ltb, take, get_or}
use Rattle.std.specs.Prelude.{Option, Some, None}
use Rattle.octets.specs.Options.{or_else}
use Rattle.address.specs.Address.{canonical}
use Rattle.heads.specs.Entry.{Direct, Gossip, Entry}
use Rattle.table.specs.Entries.{entry_in}
use Rattle.advice.specs.declared.Advice.{Advice}
use Rattle.advice.specs.declared.Advice.TheVariants.{Disable, Discourage, Available, Encrypt}

-- A3: 3,024,000 seconds, which are 35 days
abbrev pub patience : ℕ
patience = 3024000

-- A2, A3: last seen lies more than that above the timestamp; a gap of exactly so much does not
unfoldable pub stale : ℕ → ℕ → Bool
stale seen timestamp = ltb (timestamp + patience) seen

-- A2: the direct half that may be used, which is each that is there
unfoldable pub direct_of : Entry → Option Direct
direct_of e = e.direct

-- A2: the gossip half that may be used, which is each that is there
unfoldable pub gossip_of : Entry → Option Gossip
gossip_of e = e.gossip

-- A2: no key is disable, gossip alone discourage, a direct key discourage or available by its gap. Beside a direct half last seen is there (T8.10)
unfoldable pub rated_by : ℕ → Option Direct → Option Gossip → Advice
rated_by seen None None = Disable
rated_by seen None (Some g) = Discourage
rated_by seen (Some d) g = elim (stale seen d.timestamp) [ true ↦ Discourage | false ↦ Available ]

-- A2: the advice that an entry gets first
unfoldable pub rated : Entry → Advice
rated e = rated_by (or_else 0 e.last_seen) (direct_of e) (gossip_of e)

-- A4: with a reply discourage and available become encrypt, and with both preferences available does; nothing lifts disable, and preferences do not
-- lift discourage
unfoldable pub raised : Bool → Bool → Advice → Advice
raised reply both Disable = Disable
raised reply both Discourage = elim reply [ true ↦ Encrypt | false ↦ Discourage ]
raised reply both Available = elim (reply || both) [ true ↦ Encrypt | false ↦ Available ]
raised reply both Encrypt = Encrypt

-- A4: the recipient's own preference, which stands with the direct half
unfoldable pub prefers_by : Option Direct → Bool
prefers_by None = false
prefers_by (Some d) = d.«mutual»

-- A2, A4: the advice for a recipient; without an entry it is disable
unfoldable pub advice_for : Bool → Bool → Option Entry → Advice
advice_for is_mutual reply None = Disable
advice_for is_mutual reply (Some e) = raised reply (is_mutual && prefers_by (direct_of e)) (rated e)

-- A2: the target key is the direct key, else the gossip key; it has no octets where there is neither
unfoldable pub target_by : Option Direct → Option Gossip → List ℕ
target_by None None = []
target_by None (Some g) = g.key
target_by (Some d) g = d.key

-- A2: the target key of a recipient; none without an entry
unfoldable pub target_of : Option Entry → List ℕ
target_of None = []
target_of (Some e) = target_by (direct_of e) (gossip_of e)

-- A5: one recipient has disable
unfoldable pub any_disable : List Advice → Bool
any_disable [] = false
any_disable (Disable ∷ rest) = true
any_disable (Discourage ∷ rest) = any_disable rest
any_disable (Available ∷ rest) = any_disable rest
any_disable (Encrypt ∷ rest) = any_disable rest

-- A5: all recipients have encrypt
unfoldable pub all_encrypt : List Advice → Bool
all_encrypt [] = true
all_encrypt (Disable ∷ rest) = false
all_encrypt (Discourage ∷ rest) = false
all_encrypt (Available ∷ rest) = false
all_encrypt (Encrypt ∷ rest) = all_encrypt rest

-- A5: one recipient has discourage
unfoldable pub any_discourage : List Advice → Bool
any_discourage [] = false
any_discourage (Disable ∷ rest) = any_discourage rest
any_discourage (Discourage ∷ rest) = true
any_discourage (Available ∷ rest) = any_discourage rest
any_discourage (Encrypt ∷ rest) = any_discourage rest

-- A5: for the whole list the first that fits: disable if one has it, encrypt if all have it, discourage if one has it, available
unfoldable pub overall : List Advice → Advice
overall list =
    elim (any_disable list) [
      | true ↦ Disable
      | false ↦ elim (all_encrypt list) [
        | true ↦ Encrypt
        | false ↦ elim (any_discourage list) [ true ↦ Discourage | false ↦ Available ]
      ]
    ]

-- A13: this recipient has disable
abbrev pub is_disable : Advice → Bool
is_disable Disable = true
is_disable Discourage = false
is_disable Available = false
is_disable Encrypt = false

-- A13: where in the list the first disable stands, from 1 on; where there is none, how long the list is
unfoldable pub first_disable : List Advice → ℕ
first_disable [] = 0
first_disable (a ∷ rest) = elim (is_disable a) [ true ↦ 1 | false ↦ suc (first_disable rest) ]

-- A13, C21: the recipient at this place, counted from 1, has disable, and none in front of it has
pub record DisableAt (list : List Advice) (place : ℕ) : Type 0 where
  pub counted : 1 ≤ place
  pub there : get_or list (place - 1) Encrypt ≡ Disable
  pub before : any_disable (take (place - 1) list) ≡ false

-- A2, T15: the advice for an address as it stands in a list: its entry is that of its canonical form
unfoldable pub advice_in : List ℕ → Bool → Bool → List ℕ → Advice
advice_in t is_mutual reply a = advice_for is_mutual reply (entry_in t (canonical a))

-- A2, T15: the target key for an address as it stands in a list, by the entry of its canonical form
unfoldable pub target_in : List ℕ → List ℕ → List ℕ
target_in t a = target_of (entry_in t (canonical a))

-- A5: the advice for each address of a list, in order
unfoldable pub advised : List ℕ → Bool → Bool → List (List ℕ) → List Advice
advised t is_mutual reply list = map (advice_in t is_mutual reply) list

-- C21: what a table holds of each address of a list, in order
unfoldable pub entries_for : List ℕ → List (List ℕ) → List (Option Entry)
entries_for t list = map (λ a. entry_in t (canonical a)) list

-- A6, A10: the target key for each address of a list, in order
unfoldable pub targets : List ℕ → List (List ℕ) → List (List ℕ)
targets t list = map (target_in t) list
