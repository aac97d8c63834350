-- What one piece says: its name and its value.
--     name_addr .. name_other           the answers on a name
--     told_none                         a piece without "=" (61)
--     name_within .. name_upto          where its name and its value stand
--     told_addr .. told_other           a piece with "=", by its name
-- Assumes nothing.
use Prim.Native.Nat.{ℕ, ◌+◌, ◌-◌, ◌<◌, ◌≤◌}
use mathlib.Core.Path.{◌≡◌, sym, ◌∙◌}
use mathlib.Core.Bool.{Bool, true, false}
use mathlib.Core.List.{List}
use native.Mathlib.Omega.{arith}
use borrow.Author.Rules.{rules}
use lib.ListN.{length, take, drop}
use Rattle.octets.specs.Octets.{ascii, same_octets, starts_with}
use Rattle.names.specs.Names as names
use Rattle.attributes.specs.Attribute.{name_of, attribute, attribute_of}
use Rattle.attributes.specs.Answers.{part, Within, FirstAt, Trimmed, attribute_at, ValueWithin, Tells}
use Rattle.attributes.specs.declared.Bounds.{Bounds}
use Rattle.attributes.specs.declared.Name.{Name}
use Rattle.attributes.specs.declared.Name.TheVariants.{Addr as NAddr, PreferEncrypt as NPrefer, Keydata as NKeydata, Ignored as NIgnored, Unknown as NUnknown}
use Rattle.attributes.specs.declared.Attribute.TheVariants.{Addr, PreferEncrypt, Keydata, Ignored, Spoiling}
use Rattle.attributes.proofs.Cutting.{cut_before, cut_behind, cut_holds, cut_without}

module _ (s : List ℕ) (a : Bool) (p : a ≡ same_octets s names.addr) where
  pub name_addr : a ≡ true → NAddr ≡ name_of s
  unfolding name_of
  name_addr t = rw (sym p ∙ t)

  module _ (f : a ≡ false) (b : Bool) (q : b ≡ same_octets s names.prefer_encrypt) where
    pub name_prefer : b ≡ true → NPrefer ≡ name_of s
    unfolding name_of
    name_prefer t = rw (sym p ∙ f, sym q ∙ t)

    module _ (g : b ≡ false) (c : Bool) (r : c ≡ same_octets s names.keydata) where
      pub name_keydata : c ≡ true → NKeydata ≡ name_of s
      unfolding name_of
      name_keydata t = rw (sym p ∙ f, sym q ∙ g, sym r ∙ t)

      module _ (h : c ≡ false) (d : Bool) (u : d ≡ starts_with (ascii "_") (drop 0 s)) where
        pub name_ignored : d ≡ true → NIgnored ≡ name_of s
        unfolding name_of
        name_ignored t = rw (sym p ∙ f, sym q ∙ g, sym r ∙ h, sym u ∙ t)

        pub name_other : d ≡ false → NUnknown ≡ name_of s
        unfolding name_of
        name_other t = rw (sym p ∙ f, sym q ∙ g, sym r ∙ h, sym u ∙ t)

pub ruleset naming = (name_addr, name_prefer, name_keydata, name_ignored, name_other, rules)

module _ (s : List ℕ) (from to cut : ℕ) (w : Within s from to) (f : FirstAt s from to 61 cut) where
  pub told_none : to ≤ cut → Tells s Spoiling (attribute_of (part s from to))
  unfolding attribute_of attribute_at ValueWithin
  told_none l = record { is = rw (attribute_of, cut_without s from to 61 cut w f l); within = tt }

  module _ (l : cut < to) where
    pub name_within : Within s from cut
    name_within = record { order = omega (arith, f.is); upto = omega (arith, w.upto) }

    pub value_within : Within s (cut + 1) to
    value_within = record { order = omega arith; upto = w.upto }

    module _ (n v : Bounds) (p : Trimmed s from cut n) (q : Trimmed s (cut + 1) to v) where
      pub name_order : n.from ≤ n.to
      name_order = p.order

      pub name_upto : n.to ≤ length s
      name_upto = omega (arith, p.high, w.upto)

      value_there : Within s v.from v.to
      value_there = record { order = q.order; upto = omega (arith, q.high, w.upto) }

      module _ (g : Name) (e : g ≡ name_of (take (n.to - n.from) (drop n.from s))) where
        named : attribute_of (part s from to) ≡ attribute g (part s v.from v.to)
        unfolding attribute_of part
        named =
            rw (
              attribute_of,
              cut_holds s from to 61 cut w f l,
              ← cut_before s from to 61 cut w f,
              ← cut_behind s from to 61 cut w f l,
              ← p.is,
              ← q.is,
              ← e,
            )

        pub told_addr : g ≡ NAddr → Tells s (Addr v) (attribute_of (part s from to))
        unfolding attribute attribute_at ValueWithin
        told_addr k = record { is = sym (named ∙ rw k); within = value_there }

        pub told_prefer : g ≡ NPrefer → Tells s (PreferEncrypt v) (attribute_of (part s from to))
        unfolding attribute attribute_at ValueWithin
        told_prefer k = record { is = sym (named ∙ rw k); within = value_there }

        pub told_keydata : g ≡ NKeydata → Tells s (Keydata v) (attribute_of (part s from to))
        unfolding attribute attribute_at ValueWithin
        told_keydata k = record { is = sym (named ∙ rw k); within = value_there }

        pub told_ignored : g ≡ NIgnored → Tells s Ignored (attribute_of (part s from to))
        unfolding attribute attribute_at ValueWithin
        told_ignored k = record { is = sym (named ∙ rw k); within = tt }

        pub told_other : g ≡ NUnknown → Tells s Spoiling (attribute_of (part s from to))
        unfolding attribute attribute_at ValueWithin
        told_other k = record { is = sym (named ∙ rw k); within = tt }

pub ruleset telling = (
  told_none,
  name_within,
  value_within,
  name_order,
  name_upto,
  told_addr,
  told_prefer,
  told_keydata,
  told_ignored,
  told_other,
  rules,
)
