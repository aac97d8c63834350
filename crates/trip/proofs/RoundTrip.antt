-- C6: what the writers write is read back.
--     reads_alone                                 octets that are read back are alone the only field
--     text_whole, value_read                      the value of a field that can be written: its key is one text, and it says what it was written for
--     written_reads_back                          the field is read back
--     done_writable, output_alone                 a writer that answers 0 can write it, and leaves it in front of the output
--     autocrypt_reads_back, gossip_reads_back     so is what the two writers leave in front of the output when they answer 0; gossip has no preference
-- Assumes nothing.
use Prim.Native.Nat.{ℕ, zero, suc, ◌<◌}
use mathlib.Core.Path.{◌≡◌, refl, sym, ap, ◌∙◌}
use mathlib.Core.Bool.{Bool, true, false, not, false≢true}
use mathlib.Core.List.{List, [], ◌∷◌, ◌++◌, append_assoc, append-nil}
use Rattle.std.specs.Prelude.{Some, Ok}
use native.Mathlib.Omega.{arith}
use borrow.Author.Tests.{leb-true, eqb-false, ne_eqb, not-true}
use lib.Dec.{leb, eqb}
use lib.ListN.{length, get_or, take, drop}
use lib.Seq.{take-append_seam}
use Rattle.octets.specs.Octets.{ascii, octet, AllOctets, cr, lf, blank}
use Rattle.octets.specs.Written.{onto}
use Rattle.octets.specs.Options.{in_front}
use Rattle.octets.specs.Tests.{every}
use Rattle.octets.proofs.Tests.{and_left, and_right}
use Rattle.octets.proofs.Every.{every_append, every_weaker}
use Rattle.runs.specs.Runs.{belongs, run_length, run}
use Rattle.runs.specs.declared.Class.TheVariants.{Name, Blank}
use Rattle.letters.specs.Base64.{sign_of, encode}
use Rattle.letters.specs.Alphabetic.{Free}
use Rattle.letters.proofs.Lengths.{length_encode}
use Rattle.letters.proofs.Alphabetic.{encode_free, one_other}
use Rattle.keylines.specs.Lines.{lines, ending, spread}
use Rattle.keylines.proofs.Joined.{ending_other, spread_free, spread_read_back}
use Rattle.address.specs.Address.{plain, canonical, address_octet}
use Rattle.address.proofs.Sides.{plain_octets, low_apart}
use Rattle.address.proofs.Spelling.{canonical_twice, plain_canonical}
use Rattle.header.specs.Header.{over, fields}
use Rattle.header.proofs.Unfolding.{NoLf}
use Rattle.header.proofs.Fields.{fields_over}
use Rattle.header.proofs.InFront.{field_in_front}
use Rattle.slots.specs.Slot.{key_limit}
use Rattle.attributes.proofs.Joined.{other}
use Rattle.keyfield.specs.Field.{limited, key_of, field_of}
use Rattle.keyfield.proofs.ReadBack.{value_of, read_back_key}
use Rattle.writer.specs.Writing.{preference, field_text, written}
use Rattle.trip.proofs.Folded.{folded_raw, folded_value}
use Rattle.names.specs.Names.{autocrypt as autocrypt_name, gossip as gossip_name}
use Rattle.write.specs.Writing.{written_of, left_by_writing}
use Rattle.write.proofs.Outcomes.{Wrote, done_wrote}
use Rattle.trip.specs.RoundTrip.{none as no_lines, in_front_all, ReadsBack, Writable}
use Rattle.trip.proofs.Among.{opens_plain, fields_among}

-- a text that `every` finds without LF has none
no_lf : (s : List ℕ) → every (other lf) s ≡ true → NoLf s
unfolding every
no_lf [] e i q = omega arith
no_lf (x ∷ s) e zero q = let f : eqb x lf ≡ false = not-true (eqb x lf) (and_left (other lf x) (every (other lf) s) e) in absurd (eqb-false x lf f q)
no_lf (x ∷ s) e (suc i) q = no_lf s (and_right (other lf x) (every (other lf) s) e) i q

free_every : (test : ℕ → Bool) (t : List ℕ) → Free test t → every (λ x. not (test x)) t ≡ true
unfolding Free every
free_every test [] h = refl
free_every test (x ∷ t) h = rw h.0 (free_every test t h.1)

-- an address has no LF
address_no_lf : (a : List ℕ) → plain a ≡ true → every (other lf) a ≡ true
address_no_lf a p = every_weaker address_octet (other lf) apart a (plain_octets a p)
  where
    apart : (x : ℕ) → address_octet x ≡ true → other lf x ≡ true
    apart x e = ap not (ne_eqb x lf (λ q. false≢true (sym (low_apart lf (omega arith)) ∙ ap address_octet (sym q) ∙ e)))

-- alone they are the only field
pub reads_alone : (name address key octets : List ℕ) (m : Bool) (r : ReadsBack name address key m octets) → fields octets ≡ Some (r.found ∷ [])
unfolding in_front_all in_front belongs blank over
reads_alone name address key octets m r =
    let e : fields (octets ++ []) ≡ in_front r.found (fields []) = r.among [] [] no_lines [] refl in
    ap fields (sym (append-nil octets)) ∙ e ∙ rw (fields_over [] refl)

module _ (address key : List ℕ) (m : Bool) (w : Writable address key) where
  -- the value before its lines, and the text that they are
  head : List ℕ
  head = ascii " addr=" ++ (canonical address ++ (preference m ++ ascii "; keydata="))

  abbrev text : List ℕ
  text = spread (encode key)

  abbrev value : List ℕ
  value = value_of (canonical address) m text

  head_no_lf : NoLf head
  unfolding head every preference
  head_no_lf = no_lf head (rw (every_append (other lf) (canonical address) (preference m ++ ascii "; keydata="), address_no_lf (canonical address) (plain_canonical address w.plainly)) (go m))
    where
      go : (m : Bool) → every (other lf) (preference m ++ ascii "; keydata=") ≡ true
      go true = refl
      go false = refl

  some_text : 0 < length (encode key)
  some_text = omega (arith, length_encode key, leb-true 1 (length key) (and_left (leb 1 (length key)) (leb (length key) key_limit) w.limit))

  head_value : head ++ text ≡ value
  unfolding head preference
  head_value = go m
    where
      go : (m : Bool) → (ascii " addr=" ++ (canonical address ++ (preference m ++ ascii "; keydata="))) ++ text ≡ value_of (canonical address) m text
      go true = simp append_assoc
      go false = simp append_assoc

  -- the key has no `;`, which is 59
  pub text_whole : every (other 59) text ≡ true
  unfolding sign_of
  text_whole = free_every (λ x. eqb x 59) text (spread_free (λ x. eqb x 59) refl (encode key) (encode_free (λ x. eqb x 59) (one_other 59 refl) key))

  pub value_read : field_of key_limit value ≡ Some (record { address = canonical address; is_mutual = m; key = key })
  unfolding key_of limited
  value_read =
      read_back_key (canonical address) text (plain_canonical address w.plainly) text_whole key_limit m key (rw (spread_read_back key w.octets, w.limit))
      ∙ rw canonical_twice

  module _ (name : List ℕ) (named : run_length Name name ≡ length name) (some_name : 0 < length name) where
    -- the field as the reader of blocks has it: name, colon and value
    raw : List ℕ
    raw = head ++ (cr ∷ lf ∷ lines (encode key))

    whole : (rest : List ℕ) → written name address m key ++ rest ≡ name ++ (octet ":" ∷ (raw ++ rest))
    unfolding written field_text raw head
    whole rest = simp append_assoc

    in_front_lem : (rest : List ℕ) → belongs Blank (get_or rest 0 0) ≡ false
        → fields (written name address m key ++ rest) ≡ in_front (record { name = name; value = value }) (fields rest)
    unfolding raw
    in_front_lem rest b =
        let free : Free ending (encode key) = encode_free ending ending_other key in
        ap fields (whole rest)
        ∙ field_in_front name raw rest named some_name (folded_raw (encode key) some_text free head head_no_lf) b
        ∙ rw (folded_value (encode key) some_text free head head_no_lf, head_value)

    -- alone it is the only field, with this value
    written_alone : fields (written name address m key) ≡ Some (record { name = name; value = value_of (canonical address) m (spread (encode key)) } ∷ [])
    unfolding in_front belongs blank over
    written_alone = ap fields (sym (append-nil (written name address m key))) ∙ in_front_lem [] refl ∙ rw (fields_over [] refl)

    pub written_reads_back : ReadsBack name address key m (written name address m key)
    written_reads_back =
        record {
          found = record { name = name; value = value };
          named = refl;
          says = value_read;
          among = λ s fs k rest b.
              fields_among s fs k (written name address m key ++ rest) (rw (whole rest) (opens_plain name (octet ":" ∷ (raw ++ rest)) named some_name))
              ∙ ap (in_front_all fs) (in_front_lem rest b);
        }

-- a call that answers 0: its address and key are such, and the field opens the output
module _ (name address key out : List ℕ) (m : Bool) (octets : AllOctets key) (n : ℕ) (done : Ok n ≡ written_of name address m key (length out)) where
  wrote : Wrote name address m key out n
  wrote = done_wrote name address m key out n (sym done)

  pub done_writable : Writable address key
  done_writable = record { plainly = wrote.address_plain; octets = octets; limit = wrote.key_in_range }

  output_opens : take n (left_by_writing name address m key out) ≡ written name address m key
  unfolding onto
  output_opens = rw (wrote.long, wrote.there) (take-append_seam (written name address m key) (drop (length (written name address m key)) out))

  pub output_alone : run_length Name name ≡ length name → 0 < length name
      → fields (take n (left_by_writing name address m key out)) ≡ Some (record { name = name; value = value_of (canonical address) m (spread (encode key)) } ∷ [])
  output_alone named some_name = rw output_opens (written_alone address key m done_writable name named some_name)

  output_reads_back : run_length Name name ≡ length name → 0 < length name → ReadsBack name address key m (take n (left_by_writing name address m key out))
  output_reads_back named some_name = rw output_opens (written_reads_back address key m done_writable name named some_name)

module _ (address key out : List ℕ) (octets : AllOctets key) (n : ℕ) where
  pub autocrypt_reads_back : (m : Bool) → Ok n ≡ written_of autocrypt_name address m key (length out)
      → ReadsBack autocrypt_name address key m (take n (left_by_writing autocrypt_name address m key out))
  unfolding run belongs blank
  autocrypt_reads_back m done = output_reads_back autocrypt_name address key out m octets n done refl (omega arith)

  pub gossip_reads_back : Ok n ≡ written_of gossip_name address false key (length out)
      → ReadsBack gossip_name address key false (take n (left_by_writing gossip_name address false key out))
  unfolding run belongs blank
  gossip_reads_back done = output_reads_back gossip_name address key out false octets n done refl (omega arith)
