-- The parts of a statement: from the state before one, and as pieces.
use Rattle.std.proofs.Common.{◌≡◌, ◌≢◌, ℕ, zero, suc, ◌==◌, inl, inr, true, false, List, [], ◌∷◌, ◌++◌, length, map, refl, sym, ap, subst, ◌∙◌, append_assoc, arith}
use Rattle.std.specs.Prelude.{None, Some, replicate}
use Rattle.std.specs.declared.option.Option.{Option}
use Rattle.std.proofs.lemmas.List.{append-nil, map-append}
use Rattle.std.proofs.lemmas.Bool.{eqb-true}
use Rattle.std.proofs.Math.Dec.{eqb-suc-zero}
use Rattle.sg_parse.specs.declared.tree.TypeName.{TypeName}
use Rattle.sg_parse.specs.declared.tree.Param.{Param}
use Rattle.sg_parse.specs.declared.tree.Tree.{Tree}
use Rattle.sg_parse.specs.declared.words.Sort.TheVariants.{Name, Form}
use Rattle.sg_rules.specs.sg_lex.Lexeme.{Spelling as Named}
use Rattle.sg_parse.specs.Grammar.Pieces.{Piece, name}
use Rattle.sg_parse.specs.Grammar.Sentence.{type_pieces, param_pieces}
use Rattle.sg_parse.specs.Grammar.Inside.Forms.{star, open_bracket, close_bracket, form_pieces, more_params, IsType}
use Rattle.sg_parse.specs.Grammar.Inside.States.{State, dead, want, names, listed, has_sort, type_of, declared, param_after, with_param, param}
use Rattle.sg_parse.proofs.Grammar.Basics.{by_test, if_then, if_else}
use Rattle.sg_parse.proofs.Grammar.Rests.{Off, Rest, Whole, whole_of, type_rest_of, Closed, closed-star, closed-sort, name-star, name-form, form-name, front_of, last_of, front-last}

is_empty : {X : Type 0} (xs : List X) → (length xs == 0) ≡ true → xs ≡ []
is_empty [] h = refl
is_empty (x ∷ xs) h = absurd (let e : false ≡ true = sym (eqb-suc-zero (length xs)) ∙ h in cc)

not_empty : {X : Type 0} (xs : List X) → (length xs == 0) ≡ false → xs ≢ []
not_empty [] h e = let f : true ≡ false = h in absurd cc
not_empty (x ∷ xs) h e = cc

-- ---- a type and a name

-- a type with a name, and then what follows the two
pub record Declared (P : TypeName → Named → List Piece → Type 0) (ps : List Piece) : Type 0 where
  pub ty : TypeName
  pub value : Named
  pub behind : List Piece
  pub all : ps ≡ type_pieces ty ++ name Name value ∷ behind
  pub is_type : IsType ty
  pub rest : P ty value behind

snoc_full : (front : List Named) (last : Named) → front ++ last ∷ [] ≢ []
snoc_full [] last e = cc
snoc_full (x ∷ xs) last e = cc

pub declared_back : (go : TypeName → Named → State) (tree : Tree) (front : List Named) (last : Named) (n : ℕ) (ps qs : List Piece)
    → ps ≡ type_pieces (type_of front last n) ++ qs → Rest (declared go front last n) qs tree
    → Declared (λ ty value behind. Rest (go ty value) behind tree) ps
declared_back go tree front last n ps qs e r =
    by_test (n == 0)
    (λ zero_stars.
    let r1 = subst (λ v. Rest v qs tree) (if_then (n == 0) _ (want Name (λ m. go (type_of front last n) m)) zero_stars) r in
    let none : n ≡ 0 = eqb-true n 0 zero_stars in
    by_test (length front == 0)
    (λ empty. absurd (subst (λ v. Rest v qs tree) (if_then (length front == 0) dead (go (record { names = front; stars = 0 }) last) empty) r1))
    (λ full. record {
      ty = record { names = front; stars = 0 };
      value = last;
      behind = qs;
      all = e ∙ ap (λ v. (map (name Name) (front ++ last ∷ []) ++ replicate v star) ++ qs) none
          ∙ ap (λ v. v ++ qs) (append-nil (map (name Name) (front ++ last ∷ [])))
          ∙ ap (λ v. v ++ qs) (map-append (name Name) front (last ∷ []))
          ∙ append_assoc (map (name Name) front) (name Name last ∷ []) qs
          ∙ ap (λ v. v ++ name Name last ∷ qs) (sym (append-nil (map (name Name) front)));
      is_type = not_empty front full;
      rest = subst (λ v. Rest v qs tree) (if_else (length front == 0) dead (go (record { names = front; stars = 0 }) last) full) r1;
    }))
    (λ some_stars.
    let r1 = subst (λ v. Rest v qs tree) (if_else (n == 0) _ (want Name (λ m. go (type_of front last n) m)) some_stars) r in
    record {
      ty = type_of front last n;
      value = r1.value;
      behind = r1.behind;
      all = e ∙ ap (λ v. type_pieces (type_of front last n) ++ v) r1.all;
      is_type = snoc_full front last;
      rest = r1.rest;
    })

-- the names of a type but the last, and the last
pub record Ends (xs : List Named) : Type 0 where
  pub front : List Named
  pub last : Named
  pub all : xs ≡ front ++ last ∷ []

pub ends : (xs : List Named) → xs ≢ [] → Ends xs
ends [] h = absurd (h refl)
ends (x ∷ xs) h = record { front = front_of [] x xs; last = last_of x xs; all = sym (front-last [] x xs) }

pub declared_forth : (go : TypeName → Named → State) (tree : Tree) (P : List Named → Named → ℕ → List Piece → Type 0)
    → ((front : List Named) (last : Named) (n : ℕ) (qs : List Piece) → Off (has_sort Form) qs → Rest (declared go front last n) qs tree → P front last n qs)
    → (ty : TypeName) (value : Named) (qs : List Piece) → IsType ty → Closed qs → Rest (go ty value) qs tree
    → Whole P (type_pieces ty ++ name Name value ∷ qs)
declared_forth go tree P inject ty value qs is_type closed r = by ty.stars refl
  where
    by : (n : ℕ) → ty.stars ≡ n → Whole P (type_pieces ty ++ name Name value ∷ qs)
    by zero e =
        record {
          front = ty.names;
          last = value;
          count = 0;
          behind = qs;
          all = ap (λ v. (map (name Name) ty.names ++ replicate v star) ++ name Name value ∷ qs) e
              ∙ ap (λ v. v ++ name Name value ∷ qs) (append-nil (map (name Name) ty.names))
              ∙ sym (append_assoc (map (name Name) ty.names) (name Name value ∷ []) qs)
              ∙ ap (λ v. v ++ qs) (sym (map-append (name Name) ty.names (value ∷ [])))
              ∙ ap (λ v. v ++ qs) (sym (append-nil (map (name Name) (ty.names ++ value ∷ []))));
          off_star = closed-star qs closed;
          off_name = λ _. closed-sort Name qs closed;
          rest = inject ty.names value 0 qs (closed-sort Form qs closed)
              (subst (λ v. Rest v qs tree) (sym (if_else (length ty.names == 0) dead (go (record { names = ty.names; stars = 0 }) value) (full ty.names is_type)))
              (subst (λ v. Rest (go (record { names = ty.names; stars = v }) value) qs tree) e r));
        }
      where
        full : (xs : List Named) → xs ≢ [] → (length xs == 0) ≡ false
        full [] h = absurd (h refl)
        full (x ∷ xs) h = eqb-suc-zero (length xs)
    by (suc m) e =
        let t = ends ty.names is_type in
        record {
          front = t.front;
          last = t.last;
          count = suc m;
          behind = name Name value ∷ qs;
          all = ap (λ v. (map (name Name) v ++ replicate ty.stars star) ++ name Name value ∷ qs) t.all
              ∙ ap (λ v. (map (name Name) (t.front ++ t.last ∷ []) ++ replicate v star) ++ name Name value ∷ qs) e;
          off_star = name-star Name value qs;
          off_name = λ z. absurd (let f : suc m ≡ 0 = z in omega arith);
          rest = inject t.front t.last (suc m) (name Name value ∷ qs) (name-form value qs)
              (subst (λ v. Rest v (name Name value ∷ qs) tree)
              (sym (if_else (suc m == 0) _ (want Name (λ n'. go (type_of t.front t.last (suc m)) n')) (eqb-suc-zero m)))
              (record {
                value = value;
                behind = qs;
                all = refl;
                rest = subst (λ v. Rest (go (record { names = v; stars = suc m }) value) qs tree) t.all
                    (subst (λ v. Rest (go (record { names = ty.names; stars = v }) value) qs tree) e r);
              }));
        }

-- ---- a parameter

-- a parameter, and then what follows it
pub record Parameter (P : Param → List Piece → Type 0) (ps : List Piece) : Type 0 where
  pub value : Param
  pub behind : List Piece
  pub all : ps ≡ param_pieces value ++ behind
  pub is_type : IsType value.ty
  pub rest : P value behind

pub param_back : (go : List Param → State) (params : List Param) (tree : Tree) (ps : List Piece)
    → Rest (param go params) ps tree
    → Parameter (λ p behind. Rest (listed (params ++ p ∷ []) go) behind tree) ps
param_back go params tree ps r =
    let w = whole_of (λ f l n qs. Rest (param_after go params f l n) qs tree) r.value r.behind r.rest in
    elim w.rest [
      | inl h ↦
          let ty = type_of w.front w.last w.count in
          let n = h.rest.rest in
          let end = n.rest.behind in
          record {
            value = record { ty = ty; form = Some h.value; name = n.value };
            behind = end;
            all = r.all ∙ w.all ∙ ap (λ v. type_pieces ty ++ v)
                (h.all ∙ ap (λ v. name Form h.value ∷ v) (h.rest.all ∙ ap (λ v. open_bracket ∷ v) (n.all ∙ ap (λ v. name Name n.value ∷ v) n.rest.all)))
                ∙ sym (append_assoc (type_pieces ty) (form_pieces (Some h.value) n.value) end);
            is_type = snoc_full w.front w.last;
            rest = n.rest.rest;
          }
      | inr h ↦
          let d = declared_back (λ ty n. with_param go params ty None n) tree w.front w.last w.count (name Name r.value ∷ r.behind) w.behind w.all h.1 in
          record {
            value = record { ty = d.ty; form = None; name = d.value };
            behind = d.behind;
            all = r.all ∙ d.all ∙ sym (append_assoc (type_pieces d.ty) (name Name d.value ∷ []) d.behind);
            is_type = d.is_type;
            rest = d.rest;
          }
    ]

-- a list of type's pieces begins with a name
type_head : (ty : TypeName) → IsType ty → (first : Named) × (tail : List Piece) × (type_pieces ty ≡ name Name first ∷ tail)
type_head ty h = by ty.names refl
  where
    by : (xs : List Named) → ty.names ≡ xs → (first : Named) × (tail : List Piece) × (type_pieces ty ≡ name Name first ∷ tail)
    by [] e = absurd (h e)
    by (x ∷ xs) e = (x, map (name Name) xs ++ replicate ty.stars star, ap (λ v. map (name Name) v ++ replicate ty.stars star) e)

-- a type, and then what follows it, from before its first name
pub type_forth : (k : List Named → Named → ℕ → State) (tree : Tree) (ty : TypeName) (qs : List Piece) → IsType ty
    → Whole (λ f l n rs. Rest (k f l n) rs tree) (type_pieces ty ++ qs)
    → Rest (want Name (λ first. names [] first k)) (type_pieces ty ++ qs) tree
type_forth k tree ty qs is_type w =
    let h = type_head ty is_type in
    let e : type_pieces ty ++ qs ≡ name Name h.0 ∷ (h.1 ++ qs) = ap (λ v. v ++ qs) h.2 in
    record {
      value = h.0;
      behind = h.1 ++ qs;
      all = e;
      rest = type_rest_of (λ f l n rs. Rest (k f l n) rs tree) h.0 (h.1 ++ qs) (subst (Whole (λ f l n rs. Rest (k f l n) rs tree)) e w);
    }

pub param_forth : (go : List Param → State) (params : List Param) (tree : Tree) (p : Param) (qs : List Piece)
    → IsType p.ty → Closed qs → Rest (listed (params ++ p ∷ []) go) qs tree
    → Rest (param go params) (param_pieces p ++ qs) tree
param_forth go params tree p qs is_type closed r = by p.form refl
  where
    k : List Named → Named → ℕ → State
    k = param_after go params

    by : (form : Option Named) → p.form ≡ form → Rest (param go params) (param_pieces p ++ qs) tree
    by None e =
        let w = declared_forth (λ ty n. with_param go params ty None n) tree (λ f l n rs. Rest (param_after go params f l n) rs tree)
        (λ f l n rs off d. inr (off, d)) p.ty p.name qs is_type closed
        (subst (λ v. Rest (listed (params ++ record { ty = p.ty; form = v; name = p.name } ∷ []) go) qs tree) e r) in
        let whole = type_forth (param_after go params) tree p.ty (name Name p.name ∷ qs) is_type w in
        let all : type_pieces p.ty ++ name Name p.name ∷ qs ≡ param_pieces p ++ qs =
        sym (append_assoc (type_pieces p.ty) (name Name p.name ∷ []) qs)
        ∙ ap (λ v. (type_pieces p.ty ++ form_pieces v p.name) ++ qs) (sym e) in
        subst (λ v. Rest (param go params) v tree) all whole
    by (Some form) e =
        let t = ends p.ty.names is_type in
        let ty : p.ty ≡ type_of t.front t.last p.ty.stars = ap (λ v. record { names = v; stars = p.ty.stars }) t.all in
        let behind : List Piece = name Form form ∷ open_bracket ∷ name Name p.name ∷ close_bracket ∷ qs in
        let whole : Whole (λ f l n rs. Rest (param_after go params f l n) rs tree) (type_pieces p.ty ++ behind) = record {
          front = t.front;
          last = t.last;
          count = p.ty.stars;
          behind = behind;
          all = ap (λ v. type_pieces v ++ behind) ty;
          off_star = name-star Form form (open_bracket ∷ name Name p.name ∷ close_bracket ∷ qs);
          off_name = λ _. form-name form (open_bracket ∷ name Name p.name ∷ close_bracket ∷ qs);
          rest = inl (record {
            value = form;
            behind = open_bracket ∷ name Name p.name ∷ close_bracket ∷ qs;
            all = refl;
            rest = record {
              behind = name Name p.name ∷ close_bracket ∷ qs;
              all = refl;
              rest = record {
                value = p.name;
                behind = close_bracket ∷ qs;
                all = refl;
                rest = record {
                  behind = qs;
                  all = refl;
                  rest = subst (λ v. Rest (listed (params ++ record { ty = v; form = Some form; name = p.name } ∷ []) go) qs tree) ty
                      (subst (λ v. Rest (listed (params ++ record { ty = p.ty; form = v; name = p.name } ∷ []) go) qs tree) e r);
                };
              };
            };
          });
        } in
        let all : type_pieces p.ty ++ behind ≡ param_pieces p ++ qs =
        sym (append_assoc (type_pieces p.ty) (form_pieces (Some form) p.name) qs)
        ∙ ap (λ v. (type_pieces p.ty ++ form_pieces v p.name) ++ qs) (sym e) in
        subst (λ v. Rest (param go params) v tree) all (type_forth (param_after go params) tree p.ty behind is_type whole)

-- what follows a parameter begins with a mark
pub listed_closed : (more : List Param) (qs : List Piece) → Closed (more_params more ++ close_bracket ∷ qs)
listed_closed [] qs = refl
listed_closed (p ∷ more) qs = refl
