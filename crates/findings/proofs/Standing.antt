-- C23: what the writers left, among whole fields of two blocks.
--     back_written                       octets that are read back are one field, and it was written
--     own_back, gossip_back              what the writers left is read back
--     values_between, values_without     the values of a field among others
--     own_ours                           the one Autocrypt field of an outer block
--     all_none, all_some                 fields in front of others
--     gossip_ours                        the gossip fields of a payload
--     blocks_clean                       no fault is counted
-- Assumes nothing.
use Prim.Native.Nat.{ℕ}
use mathlib.Core.Path.{◌≡◌, refl, sym, ap, ◌∙◌}
use mathlib.Core.Bool.{Bool, true, false}
use mathlib.Core.List.{List, [], ◌∷◌, ◌++◌}
use Rattle.std.specs.Prelude.{Option, Some, None}
use native.Mathlib.Omega.{arith}
use Rattle.octets.specs.Octets.{lower, lowered, same_name, same_octets}
use Rattle.octets.specs.Options.{or_else, in_front, Each}
use Rattle.names.specs.Names.{autocrypt as autocrypt_name, gossip as gossip_name}
use Rattle.header.specs.Header.{FieldText, fields, readable}
use Rattle.fields.specs.Fields.{is_kind, fields_in, values_of}
use Rattle.fields.specs.declared.Kind.{Kind}
use Rattle.fields.specs.declared.Kind.TheVariants.{Autocrypt, AutocryptGossip}
use Rattle.fields.proofs.Values.{fields_read, values_append, values_first, values_other}
use Rattle.outer.specs.Outer.{recipients_in}
use Rattle.trip.specs.RoundTrip.{in_front_all, ReadsBack, behind, others}
use Rattle.trip.proofs.RoundTrip.{reads_alone, autocrypt_reads_back, gossip_reads_back}
use Rattle.trip.proofs.Holding.{readable_fields, holding_fields}
use Rattle.findings.specs.Clean.{Left, WrittenFor, GossipField, Ours}
use Rattle.findings.specs.Standing.{OwnStands, GossipStand, last, next, BlocksClean}
use Rattle.findings.proofs.Clean.{answered_clean}

-- octets that are read back
back_written : (name address octets : List ℕ) (m : Bool) (l : Left name address m octets) (r : ReadsBack name address l.key m octets)
    → WrittenFor name address m r.found.value
back_written name address octets m l r =
    record {
      octets = octets;
      left = l;
      reads =
          reads_alone name address l.key octets m r
          ∙ ap (λ (n : List ℕ). Some (record { name = n; value = r.found.value } ∷ [])) r.named;
    }

own_back : (address octets : List ℕ) (m : Bool) (l : Left autocrypt_name address m octets) → ReadsBack autocrypt_name address l.key m octets
own_back address octets m l = rw l.is (autocrypt_reads_back address l.key l.out l.key_octets l.long m l.done)

gossip_back : (address octets : List ℕ) (l : Left gossip_name address false octets) → ReadsBack gossip_name address l.key false octets
gossip_back address octets l = rw l.is (gossip_reads_back address l.key l.out l.key_octets l.long l.done)

-- their names
is_own : (name : List ℕ) → name ≡ autocrypt_name → is_kind Autocrypt name ≡ true
unfolding is_kind same_name lowered lower same_octets
is_own name e = rw e

own_other : (name : List ℕ) → name ≡ autocrypt_name → is_kind AutocryptGossip name ≡ false
unfolding is_kind same_name lowered lower same_octets
own_other name e = rw e

is_gossip : (name : List ℕ) → name ≡ gossip_name → is_kind AutocryptGossip name ≡ true
unfolding is_kind same_name lowered lower same_octets
is_gossip name e = rw e

-- one field among others
module _ (kind : Kind) (before behind : List FieldText) (f : FieldText) where
  values_between : is_kind kind f.name ≡ true → values_of kind (before ++ behind) ≡ [] → values_of kind (before ++ (f ∷ behind)) ≡ f.value ∷ []
  values_between k e =
      let q : values_of kind before ++ values_of kind behind ≡ [] = sym (values_append kind before behind) ∙ e in
      let n = none_both (values_of kind before) (values_of kind behind) q in
      values_append kind before (f ∷ behind) ∙ rw (values_first kind f behind k, n.0, n.1)
    where
      none_both : (x y : List (List ℕ)) → x ++ y ≡ [] → (x ≡ []) × (y ≡ [])
      none_both [] y e = (refl, e)
      none_both (a ∷ x) y e = let z : ◌≡◌ {A = ℕ} 0 1 = cc in absurd (omega arith)

  values_without : is_kind kind f.name ≡ false → values_of kind (before ++ (f ∷ behind)) ≡ values_of kind (before ++ behind)
  values_without k =
      values_append kind before (f ∷ behind)
      ∙ ap (λ (vs : List (List ℕ)). values_of kind before ++ vs) (values_other kind f behind k)
      ∙ sym (values_append kind before behind)

module _ (sender outer : List ℕ) (read : readable outer ≡ true) (o : OwnStands sender outer) where
  r : ReadsBack autocrypt_name o.address o.left.key o.prefers o.octets
  r = own_back o.address o.octets o.prefers o.left

  outer_is : fields_in outer ≡ o.stands.before ++ (r.found ∷ behind o.stands)
  outer_is = holding_fields autocrypt_name o.address o.left.key o.octets o.prefers r outer o.stands (fields_in outer) (fields_read outer read)

  own_ours : (recipients : List (List ℕ)) (payload : List FieldText) → Each (GossipField recipients) (values_of AutocryptGossip payload)
      → Ours sender recipients (fields_in outer) payload
  unfolding others
  own_ours recipients payload g =
      record {
        value = r.found.value;
        only = rw outer_is (values_between Autocrypt o.stands.before (behind o.stands) r.found (is_own r.found.name r.named) o.alone);
        own =
            record {
              address = o.address;
              prefers = o.prefers;
              wrote = back_written autocrypt_name o.address o.octets o.prefers o.left r;
              ours = o.ours;
            };
        without_gossip =
            rw outer_is
            (values_without AutocryptGossip o.stands.before (behind o.stands) r.found (own_other r.found.name r.named) ∙ o.without_gossip);
        gossip = g;
      }

-- fields in front of others
all_none : (fs : List FieldText) → in_front_all fs None ≡ None
unfolding in_front_all in_front
all_none [] = refl
all_none (f ∷ fs) = rw (all_none fs)

all_some : (fs gs : List FieldText) → in_front_all fs (Some gs) ≡ Some (fs ++ gs)
unfolding in_front_all in_front
all_some [] gs = refl
all_some (f ∷ fs) gs = rw (all_some fs gs)

module _ (recipients : List (List ℕ)) where
  abbrev Good : Option (List FieldText) → Type 0
  Good o = Each (GossipField recipients) (values_of AutocryptGossip (or_else [] o))

  good_next : (fs : List FieldText) (f : FieldText) (o : Option (List FieldText)) → values_of AutocryptGossip fs ≡ [] → is_kind AutocryptGossip f.name ≡ true
      → GossipField recipients f.value → Good o → Good (in_front_all fs (in_front f o))
  unfolding in_front or_else Each values_of
  good_next fs f None n k g h = rw (all_none fs) tt
  good_next fs f (Some gs) n k g h =
      rw (all_some fs (f ∷ gs), values_append AutocryptGossip fs (f ∷ gs), n, values_first AutocryptGossip f gs k) (g, h)

  gossip_good : (s : List ℕ) → GossipStand recipients s → Good (fields s)
  unfolding Each
  gossip_good s (last rest e) = rw e tt
  gossip_good s (next front fs lines n address octets l listed rest b more) =
      let r : ReadsBack gossip_name address l.key false octets = gossip_back address octets l in
      rw (r.among front fs lines rest b)
      (good_next fs r.found (fields rest) n (is_gossip r.found.name r.named)
      (record { address = address; wrote = back_written gossip_name address octets false l r; listed = listed })
      (gossip_good rest more))

  gossip_ours : (s : List ℕ) → readable s ≡ true → GossipStand recipients s → Each (GossipField recipients) (values_of AutocryptGossip (fields_in s))
  unfolding or_else
  gossip_ours s p g = rw (readable_fields s (fields_in s) (fields_read s p)) at (gossip_good s g)

pub blocks_clean : BlocksClean
blocks_clean outer payload sender room r p e o g =
    answered_clean outer payload sender room r p e
    (own_ours sender outer r o (recipients_in (fields_in outer)) (fields_in payload) (gossip_ours (recipients_in (fields_in outer)) payload p g))
