-- A look line on lists is the grammar's.
use Rattle.std.proofs.Common.{◌≡◌, ℕ, ◌^◌, ◌<◌, ◌≤◌, inl, inr, List, [], ◌∷◌, None, Some, codes, decimal, refl, ap, ◌∙◌, subst, arith}
use Rattle.std.proofs.lemmas.Option.{same_Some}
use Rattle.std.proofs.lemmas.Slice.Eq.{bytes_eq-Decides}
use Rattle.std.specs.Str.{bytes_eq}
use Rattle.arrayvec.specs.ArrayVec.{ArrayVec}
use Rattle.pump_frame.specs.Names.{IsName}
use Rattle.script_reader.specs.declared.line.Line.{Line}
use Rattle.script_reader.specs.declared.line.Line.TheVariants.{Look}
use Rattle.script_reader.specs.declared.line.Arriving.{Arriving}
use Rattle.script_reader.specs.declared.line.Arriving.TheVariants.{Nothing, Hello, Data, Raw}
use Rattle.script_reader.specs.Grammar.{IsWord, IsHex, IsRaw, IsArriving, HasFields}
use Rattle.script_reader.specs.Parsing.{field_at, with_rest, hello_of, data_of, raw, raw_of, arriving_of, look_of}
use Rattle.script_reader.proofs.Splits.{AreFree}
use Rattle.script_reader.proofs.FieldChains.{bind_some, chosen, take_number, take_name, take_word, take_hex, number_put, name_put, word_put, hex_put, end_at}
use Rattle.script_reader.proofs.FieldLaws.{field_takes, raw_takes, raw_again}
use Rattle.script_reader.proofs.FreeFields.{free_text, free_name, free_hex, free_raw, free_decimal}

hello_takes : (fields : List (List ℕ)) (arrival : Arriving) → hello_of fields ≡ Some arrival → IsArriving arrival (codes "hello" ∷ fields)
unfolding hello_of
hello_takes fields arrival e =
    take_name fields _ arrival e (λ low fb hb eb e.
    take_name fb _ arrival e (λ high fc hc ec e.
    let k = end_at _ fc arrival e in
    subst (λ a. IsArriving a (codes "hello" ∷ fields)) k.1 (hb, hc, rw (eb, ec, k.0) refl)
    ))

data_takes : (fields : List (List ℕ)) (arrival : Arriving) → data_of fields ≡ Some arrival → IsArriving arrival (codes "data" ∷ fields)
unfolding data_of
data_takes fields arrival e =
    take_number (2 ^ 48) fields _ arrival e (λ n fb hb eb e.
    take_hex fb _ arrival e (λ payload field fc hc ec e.
    let k = end_at _ fc arrival e in
    subst (λ a. IsArriving a (codes "data" ∷ fields)) k.1 (hb, field, hc, rw (eb, ec, k.0) refl)
    ))

raw_line_takes : (fields : List (List ℕ)) (arrival : Arriving) → raw_of fields ≡ Some arrival → IsArriving arrival (codes "raw" ∷ fields)
unfolding raw_of
raw_line_takes fields arrival e =
    let p = bind_some (field_at raw fields) _ arrival e in
    let q = field_takes raw fields p.0 p.1 in
    let k = end_at _ p.0.1 arrival p.2 in
    subst (λ a. IsArriving a (codes "raw" ∷ fields)) k.1 (q.0, raw_takes q.0 p.0.0 q.2, ap (λ f. codes "raw" ∷ f) (q.1 ∙ ap (λ r. q.0 ∷ r) k.0))

raw_put : (bytes : ArrayVec ℕ) (field : List ℕ) (rest : List (List ℕ)) → IsRaw bytes.items field → field_at raw (field ∷ rest) ≡ Some (bytes, rest)
raw_put bytes field rest h = ap (λ o. with_rest o rest) (raw_again field bytes h)

raw_line_put : (bytes : ArrayVec ℕ) (field : List ℕ) → IsRaw bytes.items field → raw_of (field ∷ []) ≡ Some (Raw bytes)
unfolding raw_of
raw_line_put bytes field h = rw (raw_put bytes field [] h) refl

pub arriving_takes : (fields : List (List ℕ)) (arrival : Arriving) → arriving_of fields ≡ Some arrival → IsArriving arrival fields
unfolding arriving_of
arriving_takes [] arrival e = subst (λ a. IsArriving a []) (same_Some _ _ e) refl
arriving_takes (w ∷ fields) arrival e =
    elim (chosen (bytes_eq w (codes "hello")) _ _ arrival e) [
      | inl p ↦ rw ((bytes_eq-Decides w (codes "hello")).0 p.0) (hello_takes fields arrival p.1)
      | inr p ↦ elim (chosen (bytes_eq w (codes "data")) _ _ arrival p.1) [
        | inl q ↦ rw ((bytes_eq-Decides w (codes "data")).0 q.0) (data_takes fields arrival q.1)
        | inr q ↦ elim (chosen (bytes_eq w (codes "raw")) (raw_of fields) None arrival q.1) [
          | inl r ↦ rw ((bytes_eq-Decides w (codes "raw")).0 r.0) (raw_line_takes fields arrival r.1)
          | inr r ↦ cc
        ]
      ]
    ]

hello_put : (low high : List ℕ) → IsName low → IsName high → hello_of (low ∷ high ∷ []) ≡ Some (Hello low high)
unfolding hello_of
hello_put low high hl hh = rw (name_put low _ hl, name_put high _ hh) refl

data_put : (n : ℕ) (payload field : List ℕ) → n < 2 ^ 48 → IsHex payload field → data_of (decimal n ∷ field ∷ []) ≡ Some (Data n payload)
unfolding data_of
data_put n payload field hn hp = rw (number_put (2 ^ 48) n _ hn (omega arith), hex_put payload field _ hp) refl

pub arriving_put : (arrival : Arriving) (fields : List (List ℕ)) → IsArriving arrival fields → arriving_of fields ≡ Some arrival
unfolding arriving_of
arriving_put Nothing fields h = rw h refl
arriving_put (Hello low high) fields h = rw h.2 (hello_put low high h.0 h.1)
arriving_put (Data n payload) fields h = rw h.3 (data_put n payload h.1 h.0 h.2)
arriving_put (Raw bytes) fields h = rw h.2 (raw_line_put bytes h.0 h.1)

pub look_takes : (session moment : ℕ) (fields : List (List ℕ)) (line : Line) → session < 2 ^ 32 → moment ≤ 2 ^ 62 → look_of session moment fields ≡ Some line
    → HasFields line (codes "look" ∷ decimal session ∷ decimal moment ∷ fields)
unfolding look_of
look_takes session moment fields line hs hm e =
    take_word fields _ line e (λ w hex rest hw ew e.
    let p = bind_some (arriving_of rest) _ line e in
    subst (λ l. HasFields l (codes "look" ∷ decimal session ∷ decimal moment ∷ fields)) (same_Some _ line p.2) (
      hs,
      hm,
      hex,
      hw,
      rest,
      arriving_takes rest p.0 p.1,
      rw ew refl,
    )
    )

pub look_put : (session moment w : ℕ) (hex : List ℕ) (arrival : Arriving) (rest : List (List ℕ)) → IsWord w hex → IsArriving arrival rest
    → look_of session moment (hex ∷ rest) ≡ Some (Look session moment w arrival)
unfolding look_of
look_put session moment w hex arrival rest hw ha = rw (word_put w hex rest hw, arriving_put arrival rest ha) refl

pub free_arriving : (arrival : Arriving) (fields : List (List ℕ)) → IsArriving arrival fields → AreFree fields
free_arriving Nothing fields h = rw h tt
free_arriving (Hello low high) fields h = rw h.2 (free_text (codes "hello") refl, (free_name low h.0, (free_name high h.1, tt)))
free_arriving (Raw bytes) fields h = rw h.2 (free_text (codes "raw") refl, (free_raw bytes.items h.0 h.1, tt))
free_arriving (Data n payload) fields h = rw h.3 (free_text (codes "data") refl, (free_decimal n (omega (arith, h.0)), (free_hex payload h.1 h.2, tt)))
