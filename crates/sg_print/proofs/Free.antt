-- Pieces without the word that version 2 keeps for itself are proper in a text of version 2.
use Rattle.std.proofs.Common.{ℕ, zero, suc, ◌≡◌, ◌≢◌, ◌||◌, inr, true, false, List, [], ◌∷◌, ◌++◌, Option, None, Some, map, replicate, codes, refl, sym, ap, ◌∙◌, nat_eq}
use Rattle.std.specs.Prelude.{All}
use Rattle.std.specs.Cmp.Lexicographic.{pointwise}
use Rattle.std.specs.List.{flat_map}
use Rattle.std.proofs.lemmas.List.Elements.{All-head, All-tail}
use Rattle.sg_parse.specs.declared.tree.Facts.{Facts}
use Rattle.sg_parse.specs.declared.tree.Statement.{Statement}
use Rattle.sg_parse.specs.declared.tree.Statement.TheVariants.{One, Two, Proto, External, Most, Unique, Answer}
use Rattle.sg_parse.specs.declared.tree.Ret.{Ret}
use Rattle.sg_parse.specs.declared.tree.Ret.TheVariants.{Plain, Set, Add, Sub}
use Rattle.sg_parse.specs.declared.tree.TypeName.{TypeName}
use Rattle.sg_parse.specs.declared.tree.Param.{Param}
use Rattle.sg_parse.specs.declared.words.Sort.{Sort}
use Rattle.sg_parse.specs.declared.words.Sort.TheVariants.{Name, One as one_word, Two as two_word, Form, Parents, Closing, Flag}
use Rattle.sg_parse.specs.sg_lex.Lexeme.{Spelling as Named}
use Rattle.sg_parse.specs.Grammar.Words.{is_of}
use Rattle.sg_parse.specs.sg_rules.declared.version.Newer.TheVariants.{Second}
use Rattle.sg_parse.specs.sg_rules.Versions.{is_kept}
use Rattle.sg_parse.specs.Grammar.Pieces.{Piece, word, mark, name, number, version_number, kept, newer, rule}
use Rattle.sg_parse.specs.Grammar.Sentence.{type_pieces, param_pieces, ret_pieces, statement_pieces}
use Rattle.sg_parse.specs.Grammar.Inside.Forms.{comma, close_bracket, equals, semicolon, star, fact_pieces, last_pieces, form_pieces, more_params, params_pieces, returned_pieces}
use Rattle.sg_parse.specs.Grammar.Upgraded.{IsFreeName, IsFreeType, IsFreeParam, IsFreeRet, IsFreeStatement}
use Rattle.sg_parse.proofs.Grammar.Basics.{by_test, same_bytes}
use Rattle.sg_print.proofs.Heads.{shared_pieces, recovery_pieces}
use Rattle.sg_print.proofs.Levels.{v1, v2}
use Rattle.sg_print.proofs.Leads.{IsProper, AreProper, proper_left, proper_right}

-- a name isn't the word that version 2 keeps for itself; no word of another sort is
abbrev IsFreePiece : Piece → Type 0
IsFreePiece (word bytes) = Unit {0}
IsFreePiece (mark byte) = Unit {0}
IsFreePiece (name sort n) = sort ≡ Name → IsFreeName n
IsFreePiece (number n) = Unit {0}
IsFreePiece (version_number version) = Unit {0}
IsFreePiece (kept bytes) = Unit {0}
IsFreePiece (newer version p) = ⊥
IsFreePiece (rule p) = ⊥

abbrev pub AreFree : List Piece → Type 0
AreFree [] = Unit {0}
AreFree (piece ∷ pieces) = IsFreePiece piece × AreFree pieces

free-append : (ps qs : List Piece) → AreFree ps → AreFree qs → AreFree (ps ++ qs)
free-append [] qs h g = g
free-append (p ∷ ps) qs h g = (h.0, free-append ps qs h.1 g)

-- ---- pieces that are free are proper in version 2

other_sort : (sort : Sort) (n : Named) → (sort ≡ Name → IsFreeName n) → is_of sort n.bytes ≡ true → n.bytes ≢ codes "desc_data_retval_sub"
other_sort Name n h is e = h refl e
other_sort one_word n h is e = let f : false ≡ true = sym (ap (is_of one_word) e) ∙ is in absurd cc
other_sort two_word n h is e = let f : false ≡ true = sym (ap (is_of two_word) e) ∙ is in absurd cc
other_sort Form n h is e = let f : false ≡ true = sym (ap (is_of Form) e) ∙ is in absurd cc
other_sort Parents n h is e = let f : false ≡ true = sym (ap (is_of Parents) e) ∙ is in absurd cc
other_sort Closing n h is e = let f : false ≡ true = sym (ap (is_of Closing) e) ∙ is in absurd cc
other_sort Flag n h is e = let f : false ≡ true = sym (ap (is_of Flag) e) ∙ is in absurd cc

another : (bytes : List ℕ) → bytes ≢ codes "desc_data_retval_sub" → is_kept Second bytes ≡ false
another bytes h =
    by_test (pointwise nat_eq bytes (codes "desc_data_retval_sub"))
    (λ e. absurd (h (same_bytes bytes (codes "desc_data_retval_sub") e)))
    (λ e. ap (λ b. b || false) e)

piece_upgraded : (p : Piece) → IsFreePiece p → IsProper v1 p → IsProper v2 p
piece_upgraded (word bytes) f h = tt
piece_upgraded (mark byte) f h = tt
piece_upgraded (name sort n) f h = (h.0, h.1, another n.bytes (other_sort sort n f h.1))
piece_upgraded (number n) f h = h
piece_upgraded (version_number version) f h = tt
piece_upgraded (kept bytes) f h = λ is. absurd (h is)
piece_upgraded (newer version p) f h = absurd f
piece_upgraded (rule p) f h = absurd f

are_upgraded : (ps : List Piece) → AreFree ps → AreProper v1 ps → AreProper v2 ps
are_upgraded [] f h = tt
are_upgraded (p ∷ ps) f h = (piece_upgraded p f.0 h.0, are_upgraded ps f.1 h.1)

proper-append : (ps qs : List Piece) → AreProper v2 ps → AreProper v2 qs → AreProper v2 (ps ++ qs)
proper-append [] qs h g = g
proper-append (p ∷ ps) qs h g = (h.0, proper-append ps qs h.1 g)

-- and so are they as pieces of any text
pub second_proper : (ps : List Piece) → AreProper v2 ps → AreProper v1 (map (newer Second) ps)
second_proper [] h = tt
second_proper (p ∷ ps) h = (h.0, second_proper ps h.1)

-- ---- parts of a tree

names_free : (ns : List Named) → All IsFreeName ns → AreFree (map (name Name) ns)
names_free [] f = tt
names_free (n ∷ ns) f = (λ e. All-head IsFreeName n ns f, names_free ns (All-tail IsFreeName n ns f))

stars_free : (k : ℕ) → AreFree (replicate k star)
stars_free zero = tt
stars_free (suc k) = (tt, stars_free k)

type_free : (ty : TypeName) → IsFreeType ty → AreFree (type_pieces ty)
type_free ty f = free-append (map (name Name) ty.names) (replicate ty.stars star) (names_free ty.names f) (stars_free ty.stars)

form_free : (form : Option Named) (n : Named) → IsFreeName n → AreFree (form_pieces form n)
form_free None n f = (λ e. f, tt)
form_free (Some form) n f = (λ e. absurd cc, (tt, (λ e. f, (tt, tt))))

param_free : (p : Param) → IsFreeParam p → AreFree (param_pieces p)
param_free p f = free-append (type_pieces p.ty) (form_pieces p.form p.name) (type_free p.ty f.0) (form_free p.form p.name f.1)

more_free : (ps : List Param) → All IsFreeParam ps → AreFree (more_params ps)
more_free [] f = tt
more_free (p ∷ ps) f =
    free-append (comma ∷ param_pieces p) (more_params ps) (tt, param_free p (All-head IsFreeParam p ps f)) (more_free ps (All-tail IsFreeParam p ps f))

params_free : (ps : List Param) → All IsFreeParam ps → AreFree (params_pieces ps)
params_free [] f = tt
params_free (p ∷ ps) f = free-append (param_pieces p) (more_params ps) (param_free p (All-head IsFreeParam p ps f)) (more_free ps (All-tail IsFreeParam p ps f))

returned_free : (what : Piece) (ty : TypeName) (field : Named) → IsFreePiece what → IsFreeType ty → IsFreeName field → AreFree (returned_pieces what ty field)
returned_free what ty field w f g =
    (w, (tt, free-append (type_pieces ty) (comma ∷ name Name field ∷ close_bracket ∷ []) (type_free ty f) (tt, (λ e. g, (tt, tt)))))

ret_free : (ret : Ret) → IsFreeRet ret → AreFree (ret_pieces ret)
ret_free (Plain ty) f = type_free ty f
ret_free (Set ty field) f = returned_free (word (codes "desc_data_retval")) ty field tt f.0 f.1
ret_free (Add ty field) f = returned_free (word (codes "desc_data_retval_add")) ty field tt f.0 f.1
ret_free (Sub ty field) f = returned_free (kept (codes "desc_data_retval_sub")) ty field tt f.0 f.1

-- a statement that a text of version 1 can have
statement_upgraded : (s : Statement) → IsFreeStatement s → AreProper v1 (statement_pieces s) → AreProper v2 (statement_pieces s)
statement_upgraded (One w fun) f h = are_upgraded (statement_pieces (One w fun)) (λ e. absurd cc, (tt, (λ e. f, (tt, (tt, tt))))) h
statement_upgraded (Two w first second) f h =
    are_upgraded (statement_pieces (Two w first second)) (λ e. absurd cc, (tt, (λ e. f.0, (tt, (λ e. f.1, (tt, (tt, tt))))))) h
statement_upgraded (Proto ret n params) f h =
    are_upgraded (statement_pieces (Proto ret n params))
    (free-append (ret_pieces ret) _ (ret_free ret f.0)
    (λ e. f.1, (tt, free-append (params_pieces params) (close_bracket ∷ semicolon ∷ []) (params_free params f.2) (tt, (tt, tt))))) h
statement_upgraded (External fun) f h = absurd (h.0 (inr refl))
statement_upgraded (Most field most) f h = absurd (h.0 (inr refl))
statement_upgraded (Unique fields) f h = absurd (h.0 (inr refl))
statement_upgraded (Answer fun rules) f h = absurd (h.0 (inr refl))

pub statements_upgraded : (ss : List Statement) → All IsFreeStatement ss → AreProper v1 (flat_map statement_pieces ss) → AreProper v2 (flat_map statement_pieces ss)
statements_upgraded [] f h = tt
statements_upgraded (s ∷ ss) f h =
    proper-append (statement_pieces s) (flat_map statement_pieces ss)
    (statement_upgraded s (All-head IsFreeStatement s ss f) (proper_left v1 (statement_pieces s) (flat_map statement_pieces ss) h))
    (statements_upgraded ss (All-tail IsFreeStatement s ss f) (proper_right v1 (statement_pieces s) (flat_map statement_pieces ss) h))

-- ---- a tree's head, and what follows it

fact_free : (what : List ℕ) (sort : Sort) (value : Named) (more : List Piece) → (sort ≡ Name → IsFreeName value) → AreFree more
    → AreFree (fact_pieces what sort value comma more)
fact_free what sort value more f m = (tt, (tt, (f, (tt, m))))

shared_free : (q : Facts) → IsFreeName q.service → AreFree (shared_pieces q [])
shared_free q f =
    let m6 : List Piece = word (codes "resc_has_data") ∷ equals ∷ name Flag q.resc_data ∷ [] in
    let m5 : List Piece = fact_pieces (codes "desc_has_data") Flag q.has_data comma m6 in
    let m4 : List Piece = fact_pieces (codes "desc_block") Flag q.block comma m5 in
    let m3 : List Piece = fact_pieces (codes "desc_is_global") Flag q.global comma m4 in
    let m2 : List Piece = fact_pieces (codes "desc_close") Closing q.close comma m3 in
    let m1 : List Piece = fact_pieces (codes "desc_has_parent") Parents q.parent comma m2 in
    let last : AreFree m6 = (tt, (tt, (λ e. absurd cc, tt))) in
    fact_free (codes "service") Name q.service m1 (λ e. f) (fact_free (codes "desc_has_parent") Parents q.parent m2 (λ e. absurd cc)
    (fact_free (codes "desc_close") Closing q.close m3 (λ e. absurd cc) (fact_free (codes "desc_is_global") Flag q.global m4 (λ e. absurd cc)
    (fact_free (codes "desc_block") Flag q.block m5 (λ e. absurd cc) (fact_free (codes "desc_has_data") Flag q.has_data m6 (λ e. absurd cc) last)))))

-- the end of the head of a text of version 2 has more, in which no name is
pub upgraded_head : (q : Facts) (more : List Piece) → IsFreeName q.service → (AreProper v1 more → AreProper v2 more)
    → AreProper v1 (shared_pieces q (last_pieces more)) → AreProper v2 (shared_pieces q (recovery_pieces q.eager more))
upgraded_head q more f g h =
    let head : List Piece = shared_pieces q [] in
    let before = are_upgraded head (shared_free q f) (proper_left v1 head (last_pieces more) h) in
    let behind = g (proper_right v1 head (last_pieces more) h).1.1 in
    proper-append head (recovery_pieces q.eager more) before (tt, (tt, (tt, (tt, (tt, (tt, behind))))))
