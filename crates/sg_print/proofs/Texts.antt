-- The texts of a tree, part by part, lead to its pieces.
use Rattle.std.proofs.Common.{ℕ, zero, suc, ◌≡◌, ◌≢◌, inl, inr, Bool, true, false, if◌then◌else◌, List, [], ◌∷◌, ◌++◌, Option, None, Some, map, replicate, codes, refl, sym, subst, append_assoc, arith}
use Rattle.std.proofs.lemmas.Bool.{ne_eqb}
use Rattle.std.specs.List.{flat_map}
use Rattle.std.specs.Prelude.{All, ◌==◌}
use Rattle.std.proofs.lemmas.List.Elements.{All-head, All-tail}
use Rattle.sg_parse.specs.declared.tree.Facts.{Facts}
use Rattle.sg_parse.specs.declared.tree.Statement.{Statement}
use Rattle.sg_parse.specs.declared.tree.Statement.TheVariants.{One, Two, Proto, External, Most, Unique, Answer}
use Rattle.sg_parse.specs.declared.tree.Ret.{Ret}
use Rattle.sg_parse.specs.declared.tree.Ret.TheVariants.{Plain, Set, Add, Sub}
use Rattle.sg_parse.specs.declared.tree.TypeName.{TypeName}
use Rattle.sg_parse.specs.declared.tree.Param.{Param}
use Rattle.sg_parse.specs.declared.tree.Tree.{Tree}
use Rattle.sg_parse.specs.declared.words.Sort.TheVariants.{Name, One as one_word, Two as two_word, Form, Parents, Closing, Flag}
use Rattle.sg_parse.specs.sg_lex.Lexeme.{Spelling as Named}
use Rattle.sg_parse.specs.sg_rules.Grammar.Sentence.{rule_pieces}
use Rattle.sg_parse.specs.sg_rules.declared.version.Newer.TheVariants.{Second, Third}
use Rattle.sg_parse.specs.Grammar.Pieces.{Piece, word, mark, name, version_number, kept, newer, rule}
use Rattle.sg_parse.specs.Grammar.Sentence.{type_pieces, param_pieces, ret_pieces, statement_pieces, recovery_word, tree_pieces, IsStatement}
use Rattle.sg_parse.specs.Grammar.Inside.Forms.{open_brace, close_brace, equals, open_bracket, close_bracket, comma, semicolon, star, form_pieces, more_fields, more_params, params_pieces, returned_pieces, last_pieces, IsType, IsRet, IsHead, IsWellFormed}
use Rattle.sg_print.specs.Printed.{type_text, ret_text, statement_text, shared_text, printed, param_text, returned_text}
use Rattle.sg_print.specs.Inside.Pieces.{names_text, stars_text, type_before_comma, params_text, form_text}
use Rattle.sg_facts.specs.Words.{line_end as line_feed}
use Rattle.sg_print.specs.RulesText.{rule_line}
use Rattle.sg_print.proofs.Heads.{shared_pieces, recovery_pieces, after_brace}
use Rattle.sg_print.proofs.Levels.{Version, v1, v2, v3}
use Rattle.sg_print.proofs.Leads.{Leads, Stops, IsFixed, end_leads, blank_leads, mark_leads, fixed_leads, name_leads, number_leads, kept_leads, version_leads, second_leads, third_leads, AreProper, proper_left, proper_right, proper_second, proper_third}
use Rattle.sg_print.proofs.RuleTexts.{rules_lead}

-- ---- types

more_stop : (ns : List Named) (rest : List ℕ) → Stops rest → Stops (flat_map (λ m. codes " " ++ m.bytes) ns ++ rest)
more_stop [] rest s = s
more_stop (n ∷ ns) rest s = refl

more_lead : {b : Version} (ns : List Named) (rest : List ℕ) (pieces : List Piece) → AreProper b (map (name Name) ns) → Stops rest → Leads b rest pieces
    → Leads b (flat_map (λ m. codes " " ++ m.bytes) ns ++ rest) (map (name Name) ns ++ pieces)
more_lead [] rest pieces h s k = k
more_lead (n ∷ ns) rest pieces h s k =
    rw append_assoc (blank_leads 0x20 _ _ refl
    (name_leads Name n _ _ h.0 (more_stop ns rest s) (more_lead ns rest pieces h.1 s k)))

names_lead : {b : Version} (ns : List Named) (rest : List ℕ) (pieces : List Piece) → ns ≢ [] → AreProper b (map (name Name) ns) → Stops rest → Leads b rest pieces
    → Leads b (names_text ns ++ rest) (map (name Name) ns ++ pieces)
names_lead [] rest pieces ne h s k = absurd (ne refl)
names_lead (n ∷ ns) rest pieces ne h s k =
    rw append_assoc (name_leads Name n _ _ h.0 (more_stop ns rest s) (more_lead ns rest pieces h.1 s k))

stars_lead : {b : Version} (k : ℕ) (rest : List ℕ) (pieces : List Piece) → Leads b rest pieces → Leads b (replicate k 0x2A ++ rest) (replicate k star ++ pieces)
stars_lead zero rest pieces l = l
stars_lead (suc k) rest pieces l = mark_leads 0x2A _ _ refl (stars_lead k rest pieces l)

type_leads : {b : Version} (ty : TypeName) (rest : List ℕ) (pieces : List Piece) → IsType ty → AreProper b (type_pieces ty) → Leads b rest pieces
    → Leads b (type_text ty ++ rest) (type_pieces ty ++ pieces)
type_leads {b = b} ty rest pieces ne h k =
    simp append_assoc (names_lead ty.names (stars_text ty.stars ++ rest) (replicate ty.stars star ++ pieces) ne
    (proper_left b (map (name Name) ty.names) (replicate ty.stars star) h) refl
    (blank_leads 0x20 _ _ refl (stars_lead ty.stars rest pieces k)))

before_comma : {b : Version} (ns : List Named) (k : ℕ) (rest : List ℕ) (pieces : List Piece) → ns ≢ [] → AreProper b (map (name Name) ns) → Stops rest
    → Leads b rest pieces
    → Leads b ((names_text ns ++ (if k == 0 then [] else stars_text k)) ++ rest) ((map (name Name) ns ++ replicate k star) ++ pieces)
before_comma ns zero rest pieces ne h s l = simp append_assoc (names_lead ns rest pieces ne h s l)
before_comma ns (suc k) rest pieces ne h s l =
    let some : (suc k == 0) ≡ false = ne_eqb (suc k) 0 (λ e. omega arith) in
    simp (some, append_assoc) (names_lead ns (stars_text (suc k) ++ rest) (replicate (suc k) star ++ pieces) ne h refl
    (blank_leads 0x20 _ _ refl (stars_lead (suc k) rest pieces l)))

-- ---- parameters

form_leads : {b : Version} (form : Option Named) (n : Named) (rest : List ℕ) (pieces : List Piece) → AreProper b (form_pieces form n) → Stops rest
    → Leads b rest pieces → Leads b (form_text form n ++ rest) (form_pieces form n ++ pieces)
form_leads None n rest pieces h s k = name_leads Name n rest pieces h.0 s k
form_leads (Some form) n rest pieces h s k =
    simp append_assoc (name_leads Form form _ _ h.0 refl (mark_leads 0x28 _ _ refl
    (name_leads Name n _ _ h.1.1.0 refl (mark_leads 0x29 _ _ refl k))))

param_leads : {b : Version} (p : Param) (rest : List ℕ) (pieces : List Piece) → IsType p.ty → AreProper b (param_pieces p) → Stops rest → Leads b rest pieces
    → Leads b (param_text p ++ rest) (param_pieces p ++ pieces)
param_leads {b = b} p rest pieces ne h s k =
    rw (append_assoc (type_text p.ty) (form_text p.form p.name) rest, append_assoc (type_pieces p.ty) (form_pieces p.form p.name) pieces)
    (type_leads p.ty _ _ ne (proper_left b (type_pieces p.ty) (form_pieces p.form p.name) h)
    (form_leads p.form p.name rest pieces (proper_right b (type_pieces p.ty) (form_pieces p.form p.name) h) s k))

abbrev more_text : List Param → List ℕ
more_text ps = flat_map (λ q. codes ", " ++ param_text q) ps

more_text_stop : (ps : List Param) (rest : List ℕ) → Stops rest → Stops (more_text ps ++ rest)
more_text_stop [] rest s = s
more_text_stop (p ∷ ps) rest s = refl

more_params_lead : {b : Version} (ps : List Param) (rest : List ℕ) (pieces : List Piece) → All (λ p. IsType p.ty) ps → AreProper b (more_params ps)
    → Stops rest → Leads b rest pieces → Leads b (more_text ps ++ rest) (more_params ps ++ pieces)
more_params_lead [] rest pieces ne h s k = k
more_params_lead {b = b} (p ∷ ps) rest pieces ne h s k =
    rw (append_assoc (codes ", " ++ param_text p) (more_text ps) rest, append_assoc (comma ∷ param_pieces p) (more_params ps) pieces)
    (mark_leads 0x2C _ _ refl (blank_leads 0x20 _ _ refl
    (param_leads p (more_text ps ++ rest) (more_params ps ++ pieces) (All-head (λ q. IsType q.ty) p ps ne)
    (proper_left b (param_pieces p) (more_params ps) h.1) (more_text_stop ps rest s)
    (more_params_lead ps rest pieces (All-tail (λ q. IsType q.ty) p ps ne) (proper_right b (param_pieces p) (more_params ps) h.1) s k))))

params_lead : {b : Version} (ps : List Param) (rest : List ℕ) (pieces : List Piece) → ps ≢ [] → All (λ p. IsType p.ty) ps → AreProper b (params_pieces ps)
    → Stops rest → Leads b rest pieces → Leads b (params_text ps ++ rest) (params_pieces ps ++ pieces)
params_lead [] rest pieces some ne h s k = absurd (some refl)
params_lead {b = b} (p ∷ ps) rest pieces some ne h s k =
    rw (append_assoc (param_text p) (more_text ps) rest, append_assoc (param_pieces p) (more_params ps) pieces)
    (param_leads p (more_text ps ++ rest) (more_params ps ++ pieces) (All-head (λ q. IsType q.ty) p ps ne)
    (proper_left b (param_pieces p) (more_params ps) h) (more_text_stop ps rest s)
    (more_params_lead ps rest pieces (All-tail (λ q. IsType q.ty) p ps ne) (proper_right b (param_pieces p) (more_params ps) h) s k))

-- ---- returns

returned_leads : {b : Version} (what : List ℕ) (first : Piece) (ty : TypeName) (field : Named) (rest : List ℕ) (pieces : List Piece)
    → ((after : List ℕ) (more : List Piece) → Stops after → Leads b after more → Leads b (what ++ after) (first ∷ more)) → IsType ty
    → AreProper b (returned_pieces first ty field) → Leads b rest pieces
    → Leads b (returned_text what ty field ++ rest) (returned_pieces first ty field ++ pieces)
returned_leads {b = b} what first ty field rest pieces begins ne h k =
    let types_are : AreProper b (type_pieces ty) = proper_left b (type_pieces ty) (comma ∷ name Name field ∷ close_bracket ∷ []) h.1.1 in
    let behind : AreProper b (comma ∷ name Name field ∷ close_bracket ∷ []) = proper_right b (type_pieces ty) _ h.1.1 in
    let last : Leads b (0x2C ∷ 0x20 ∷ (field.bytes ++ 0x29 ∷ 0x20 ∷ rest)) (comma ∷ name Name field ∷ close_bracket ∷ pieces)
    = mark_leads 0x2C _ _ refl (blank_leads 0x20 _ _ refl (name_leads Name field _ _ behind.1.0 refl
    (mark_leads 0x29 _ _ refl (blank_leads 0x20 _ _ refl k)))) in
    let whole : Leads b (what ++ (0x28 ∷ (type_before_comma ty ++ 0x2C ∷ 0x20 ∷ (field.bytes ++ 0x29 ∷ 0x20 ∷ rest))))
    (first ∷ open_bracket ∷ (type_pieces ty ++ comma ∷ name Name field ∷ close_bracket ∷ pieces))
    = begins _ _ refl (mark_leads 0x28 _ _ refl (before_comma ty.names ty.stars _ _ ne
    (proper_left b (map (name Name) ty.names) (replicate ty.stars star) types_are) refl last)) in
    rw (
      append_assoc what (0x28 ∷ (type_before_comma ty ++ 0x2C ∷ 0x20 ∷ (field.bytes ++ 0x29 ∷ 0x20 ∷ []))) rest,
      append_assoc (type_before_comma ty) (0x2C ∷ 0x20 ∷ (field.bytes ++ 0x29 ∷ 0x20 ∷ [])) rest,
      append_assoc field.bytes (0x29 ∷ 0x20 ∷ []) rest,
      append_assoc (type_pieces ty) (comma ∷ name Name field ∷ close_bracket ∷ []) pieces,
    ) whole

ret_leads : {b : Version} (ret : Ret) (rest : List ℕ) (pieces : List Piece) → IsRet ret → AreProper b (ret_pieces ret) → Leads b rest pieces
    → Leads b (ret_text ret ++ rest) (ret_pieces ret ++ pieces)
ret_leads (Plain ty) rest pieces ne h k = type_leads ty rest pieces ne h k
ret_leads (Set ty field) rest pieces ne h k =
    returned_leads (codes "desc_data_retval") _ ty field rest pieces (λ after more s l. fixed_leads (codes "desc_data_retval") after more ((refl, refl), refl, refl) s l) ne h k
ret_leads (Add ty field) rest pieces ne h k =
    returned_leads (codes "desc_data_retval_add") _ ty field rest pieces (λ after more s l. fixed_leads (codes "desc_data_retval_add") after more ((refl, refl), refl, refl) s l) ne h k
ret_leads (Sub ty field) rest pieces ne h k =
    returned_leads (codes "desc_data_retval_sub") _ ty field rest pieces
    (λ after more s l. kept_leads (codes "desc_data_retval_sub") after more (refl, refl) (h.0 (inl refl)) s l) ne h k

-- ---- fields

fields_stop : (ns : List Named) (rest : List ℕ) → Stops rest → Stops (flat_map (λ m. codes ", " ++ m.bytes) ns ++ rest)
fields_stop [] rest s = s
fields_stop (n ∷ ns) rest s = refl

fields_lead : {b : Version} (ns : List Named) (rest : List ℕ) (pieces : List Piece) → AreProper b (more_fields ns) → Stops rest → Leads b rest pieces
    → Leads b (flat_map (λ m. codes ", " ++ m.bytes) ns ++ rest) (more_fields ns ++ pieces)
fields_lead [] rest pieces h s k = k
fields_lead (n ∷ ns) rest pieces h s k =
    rw append_assoc (mark_leads 0x2C _ _ refl (blank_leads 0x20 _ _ refl
    (name_leads Name n _ _ h.1.0 (fields_stop ns rest s) (fields_lead ns rest pieces h.1.1 s k))))

-- ---- statements

-- the end of a statement's line
line_end : {b : Version} (rest : List ℕ) (pieces : List Piece) → Leads b rest pieces
    → Leads b (0x29 ∷ 0x3B ∷ 0x0A ∷ rest) (close_bracket ∷ semicolon ∷ pieces)
line_end rest pieces k = mark_leads 0x29 _ _ refl (mark_leads 0x3B _ _ refl (blank_leads 0x0A _ _ refl k))

statement_leads : {b : Version} (s : Statement) (rest : List ℕ) (pieces : List Piece) → IsStatement s → AreProper b (statement_pieces s) → Leads b rest pieces
    → Leads b (statement_text s ++ rest) (statement_pieces s ++ pieces)
statement_leads (One w fun) rest pieces ok h k =
    simp append_assoc (name_leads one_word w _ _ h.0 refl (mark_leads 0x28 _ _ refl
    (name_leads Name fun _ _ h.1.1.0 refl (line_end rest pieces k))))
statement_leads (Two w first second) rest pieces ok h k =
    simp append_assoc (name_leads two_word w _ _ h.0 refl (mark_leads 0x28 _ _ refl
    (name_leads Name first _ _ h.1.1.0 refl (mark_leads 0x2C _ _ refl (blank_leads 0x20 _ _ refl
    (name_leads Name second _ _ h.1.1.1.1.0 refl (line_end rest pieces k)))))))
statement_leads {b = b} (Proto ret n params) rest pieces ok h k =
    let behind : AreProper b (name Name n ∷ open_bracket ∷ (params_pieces params ++ close_bracket ∷ semicolon ∷ []))
    = proper_right b (ret_pieces ret) _ h in
    let last : Leads b (params_text params ++ 0x29 ∷ 0x3B ∷ 0x0A ∷ rest) (params_pieces params ++ close_bracket ∷ semicolon ∷ pieces)
    = params_lead params _ _ ok.1 ok.2 (proper_left b (params_pieces params) (close_bracket ∷ semicolon ∷ []) behind.1.1) refl
    (line_end rest pieces k) in
    let whole : Leads b (ret_text ret ++ (n.bytes ++ (0x28 ∷ (params_text params ++ 0x29 ∷ 0x3B ∷ 0x0A ∷ rest))))
    (ret_pieces ret ++ name Name n ∷ open_bracket ∷ (params_pieces params ++ close_bracket ∷ semicolon ∷ pieces))
    = ret_leads ret _ _ ok.0 (proper_left b (ret_pieces ret) _ h)
    (name_leads Name n _ _ behind.0 refl (mark_leads 0x28 _ _ refl last)) in
    rw (
      append_assoc (ret_text ret) (n.bytes ++ (0x28 ∷ (params_text params ++ 0x29 ∷ 0x3B ∷ 0x0A ∷ []))) rest,
      append_assoc n.bytes (0x28 ∷ (params_text params ++ 0x29 ∷ 0x3B ∷ 0x0A ∷ [])) rest,
      append_assoc (params_text params) (0x29 ∷ 0x3B ∷ 0x0A ∷ []) rest,
      append_assoc (ret_pieces ret) (name Name n ∷ open_bracket ∷ (params_pieces params ++ close_bracket ∷ semicolon ∷ [])) pieces,
      append_assoc (params_pieces params) (close_bracket ∷ semicolon ∷ []) pieces,
    ) whole
statement_leads (External fun) rest pieces ok h k =
    simp append_assoc (kept_leads (codes "sm_external") _ _ (refl, refl) (h.0 (inr refl)) refl (mark_leads 0x28 _ _ refl
    (name_leads Name fun _ _ h.1.1.0 refl (line_end rest pieces k))))
statement_leads (Most field most) rest pieces ok h k =
    simp append_assoc (kept_leads (codes "desc_data_most") _ _ (refl, refl) (h.0 (inr refl)) refl (mark_leads 0x28 _ _ refl
    (name_leads Name field _ _ h.1.1.0 refl (mark_leads 0x2C _ _ refl (blank_leads 0x20 _ _ refl
    (number_leads most _ _ h.1.1.1.1.0 refl (line_end rest pieces k)))))))
statement_leads {b = b} (Unique []) rest pieces ok h k = absurd (ok refl)
statement_leads {b = b} (Unique (n ∷ more)) rest pieces ok h k =
    let fields : AreProper b (name Name n ∷ more_fields more) = proper_left b (name Name n ∷ more_fields more) (close_bracket ∷ semicolon ∷ []) h.1.1 in
    let text = flat_map (λ m. codes ", " ++ m.bytes) more in
    let whole : Leads b (codes "desc_data_unique" ++ (0x28 ∷ (n.bytes ++ (text ++ 0x29 ∷ 0x3B ∷ 0x0A ∷ rest))))
    (kept (codes "desc_data_unique") ∷ open_bracket ∷ name Name n ∷ (more_fields more ++ close_bracket ∷ semicolon ∷ pieces))
    = kept_leads (codes "desc_data_unique") _ _ (refl, refl) (h.0 (inr refl)) refl (mark_leads 0x28 _ _ refl
    (name_leads Name n _ _ fields.0 (fields_stop more _ refl) (fields_lead more _ _ fields.1 refl (line_end rest pieces k)))) in
    rw (
      append_assoc (n.bytes ++ text) (0x29 ∷ 0x3B ∷ 0x0A ∷ []) rest,
      append_assoc n.bytes text (0x29 ∷ 0x3B ∷ 0x0A ∷ rest),
      append_assoc (more_fields more) (close_bracket ∷ semicolon ∷ []) pieces,
    ) whole
statement_leads {b = b} (Answer fun rules) rest pieces ok h k =
    let lines = flat_map rule_line rules in
    let inner = map rule (flat_map rule_pieces rules) in
    let whole : Leads b (codes "sm_answer" ++ (0x28 ∷ (fun.bytes ++ 0x29 ∷ 0x20 ∷ 0x7B ∷ 0x0A ∷ (lines ++ 0x7D ∷ 0x0A ∷ rest))))
    (kept (codes "sm_answer") ∷ open_bracket ∷ name Name fun ∷ close_bracket ∷ open_brace ∷ (inner ++ close_brace ∷ pieces))
    = kept_leads (codes "sm_answer") _ _ (refl, refl) (h.0 (inr refl)) refl (mark_leads 0x28 _ _ refl (name_leads Name fun _ _ h.1.1.0 refl
    (mark_leads 0x29 _ _ refl (blank_leads 0x20 _ _ refl (mark_leads 0x7B _ _ refl (blank_leads 0x0A _ _ refl
    (rules_lead rules _ _ (close_brace ∷ []) h.1.1.1.1.1 (mark_leads 0x7D _ _ refl (blank_leads 0x0A _ _ refl k))))))))) in
    rw (
      append_assoc fun.bytes (0x29 ∷ 0x20 ∷ 0x7B ∷ 0x0A ∷ (lines ++ 0x7D ∷ 0x0A ∷ [])) rest,
      append_assoc lines (0x7D ∷ 0x0A ∷ []) rest,
      append_assoc inner (close_brace ∷ []) pieces,
    ) whole

statements_lead : {b : Version} (ss : List Statement) → All IsStatement ss → AreProper b (flat_map statement_pieces ss)
    → Leads b (flat_map statement_text ss) (flat_map statement_pieces ss)
statements_lead [] ok h = end_leads
statements_lead {b = b} (s ∷ ss) ok h =
    statement_leads s (flat_map statement_text ss) (flat_map statement_pieces ss) (All-head IsStatement s ss ok)
    (proper_left b (statement_pieces s) _ h)
    (statements_lead ss (All-tail IsStatement s ss ok) (proper_right b (statement_pieces s) _ h))

-- ---- facts

-- four spaces, the word of a fact, ` = `, its value, and what follows
fact_leads : {b : Version} (what : List ℕ) (value : Piece) (rest : List ℕ) (pieces : List Piece) → IsFixed what → Leads b rest (value ∷ pieces)
    → Leads b (0x20 ∷ 0x20 ∷ 0x20 ∷ 0x20 ∷ (what ++ 0x20 ∷ 0x3D ∷ 0x20 ∷ rest)) (word what ∷ mark (codes "=") ∷ value ∷ pieces)
fact_leads what value rest pieces w k =
    blank_leads 0x20 _ _ refl (blank_leads 0x20 _ _ refl (blank_leads 0x20 _ _ refl (blank_leads 0x20 _ _ refl
    (fixed_leads what _ _ w refl (blank_leads 0x20 _ _ refl (mark_leads 0x3D _ _ refl (blank_leads 0x20 _ _ refl k)))))))

-- a comma and the end of a line
comma_line : {b : Version} (rest : List ℕ) (pieces : List Piece) → Leads b rest pieces → Leads b (0x2C ∷ 0x0A ∷ rest) (comma ∷ pieces)
comma_line rest pieces k = mark_leads 0x2C _ _ refl (blank_leads 0x0A _ _ refl k)

shared_proper : (b : Version) (f : Facts) (pieces : List Piece) → AreProper b (shared_pieces f pieces) → AreProper b pieces
shared_proper b f pieces h = proper_right b (shared_pieces f []) pieces h

shared_lead : {b : Version} (f : Facts) (rest : List ℕ) (pieces : List Piece) → AreProper b (shared_pieces f pieces) → Stops rest → Leads b rest pieces
    → Leads b (shared_text f ++ rest) (shared_pieces f pieces)
unfolding shared_text
shared_lead f rest pieces h s k =
    let parent = h.1.1.1.1 in
    let close = parent.1.1.1.1 in
    let global = close.1.1.1.1 in
    let block = global.1.1.1.1 in
    let has_data = block.1.1.1.1 in
    let resc_data = has_data.1.1.1.1 in
    simp append_assoc
    (fact_leads (codes "service") (name Name f.service) _ _ ((refl, refl), refl, refl) (name_leads Name f.service _ _ h.1.1.0 refl (comma_line _ _
    (fact_leads (codes "desc_has_parent") (name Parents f.parent) _ _ ((refl, refl), refl, refl) (name_leads Parents f.parent _ _ parent.1.1.0 refl (comma_line _ _
    (fact_leads (codes "desc_close") (name Closing f.close) _ _ ((refl, refl), refl, refl) (name_leads Closing f.close _ _ close.1.1.0 refl (comma_line _ _
    (fact_leads (codes "desc_is_global") (name Flag f.global) _ _ ((refl, refl), refl, refl) (name_leads Flag f.global _ _ global.1.1.0 refl (comma_line _ _
    (fact_leads (codes "desc_block") (name Flag f.block) _ _ ((refl, refl), refl, refl) (name_leads Flag f.block _ _ block.1.1.0 refl (comma_line _ _
    (fact_leads (codes "desc_has_data") (name Flag f.has_data) _ _ ((refl, refl), refl, refl) (name_leads Flag f.has_data _ _ has_data.1.1.0 refl (comma_line _ _
    (fact_leads (codes "resc_has_data") (name Flag f.resc_data) _ _ ((refl, refl), refl, refl) (name_leads Flag f.resc_data _ _ resc_data.1.1.0 s k))))))))))))))))))))

-- ---- the end of the head

-- the end of the head, by the version of the text
abbrev end_text : Version → Bool → List ℕ → List ℕ
end_text v1 eager rest = line_feed ++ (codes "};" ++ (line_feed ++ rest))
end_text v2 eager rest = (codes "," ++ (line_feed ++ (codes "    desc_recover = " ++ recovery_word eager))) ++ (line_feed ++ (codes "};" ++ (line_feed ++ rest)))
end_text v3 eager rest = (codes "," ++ (line_feed ++ (codes "    desc_recover = " ++ recovery_word eager))) ++ (line_feed ++ (codes "};" ++ (line_feed ++ rest)))

last_leads : {b : Version} (rest : List ℕ) (more : List Piece) → Leads b rest more → Leads b (0x0A ∷ 0x7D ∷ 0x3B ∷ 0x0A ∷ rest) (last_pieces more)
last_leads rest more k = blank_leads 0x0A _ _ refl (mark_leads 0x7D _ _ refl (mark_leads 0x3B _ _ refl (blank_leads 0x0A _ _ refl k)))

recovery_leads : {b : Version} (eager : Bool) (rest : List ℕ) (more : List Piece) → Leads b rest more → Leads b (end_text v2 eager rest) (recovery_pieces eager more)
recovery_leads true rest more k =
    comma_line _ _ (fact_leads (codes "desc_recover") (word (codes "eager")) _ _ ((refl, refl), refl, refl)
    (fixed_leads (codes "eager") _ _ ((refl, refl), refl, refl) refl (last_leads rest more k)))
recovery_leads false rest more k =
    comma_line _ _ (fact_leads (codes "desc_recover") (word (codes "demand")) _ _ ((refl, refl), refl, refl)
    (fixed_leads (codes "demand") _ _ ((refl, refl), refl, refl) refl (last_leads rest more k)))

recovery_stops : (eager : Bool) (rest : List ℕ) → Stops (end_text v2 eager rest)
recovery_stops eager rest = refl

-- ---- trees

-- the line of a version
abbrev line_of : Version → List ℕ
line_of v1 = []
line_of v2 = codes "    version = 2," ++ line_feed
line_of v3 = codes "    version = 3," ++ line_feed

abbrev head_text : Version → Facts → List ℕ → List ℕ
head_text version f rest = codes "service_global_info = {" ++ (line_feed ++ (line_of version ++ (shared_text f ++ end_text version f.eager rest)))

-- what follows the head is as a text of the version has it
after_lead : (version : Version) (f : Facts) (rest : List ℕ) (more : List Piece) → AreProper v1 (after_brace version f more)
    → (AreProper version more → Leads version rest more)
    → Leads v1 (line_of version ++ (shared_text f ++ end_text version f.eager rest)) (after_brace version f more)
after_lead v1 f rest more h k =
    let behind = shared_proper v1 f (last_pieces more) h in
    shared_lead f _ _ h refl (last_leads rest more (k behind.1.1))
after_lead v2 f rest more h k =
    let its = proper_second (shared_pieces f (recovery_pieces f.eager more)) h.1.1.1.1 in
    let behind = shared_proper v2 f (recovery_pieces f.eager more) its in
    fact_leads (codes "version") (version_number Second) _ _ ((refl, refl), refl, refl) (version_leads Second _ _ refl (comma_line _ _ (second_leads _ _
    (shared_lead f _ _ its (recovery_stops f.eager rest) (recovery_leads f.eager rest more (k behind.1.1.1.1.1.1))))))
after_lead v3 f rest more h k =
    let its = proper_third (shared_pieces f (recovery_pieces f.eager more)) (proper_second (map (newer Third) (shared_pieces f (recovery_pieces f.eager more))) h.1.1.1.1) in
    let behind = shared_proper v3 f (recovery_pieces f.eager more) its in
    fact_leads (codes "version") (version_number Third) _ _ ((refl, refl), refl, refl) (version_leads Third _ _ refl (comma_line _ _ (second_leads _ _ (third_leads _ _
    (shared_lead f _ _ its (recovery_stops f.eager rest) (recovery_leads f.eager rest more (k behind.1.1.1.1.1.1)))))))

head_lead : (version : Version) (f : Facts) (rest : List ℕ) (more : List Piece) → AreProper v1 (after_brace version f more)
    → (AreProper version more → Leads version rest more)
    → Leads v1 (head_text version f rest) (word (codes "service_global_info") ∷ equals ∷ open_brace ∷ after_brace version f more)
head_lead version f rest more h k =
    fixed_leads (codes "service_global_info") _ _ ((refl, refl), refl, refl) refl (blank_leads 0x20 _ _ refl (mark_leads 0x3D _ _ refl (blank_leads 0x20 _ _ refl
    (mark_leads 0x7B _ _ refl (blank_leads 0x0A _ _ refl (after_lead version f rest more h k))))))

-- a tree with the number of its version written out
abbrev as_version : Tree → ℕ → Tree
as_version tree n = record { facts = record tree.facts { version = n }; statements = tree.statements }

-- the canonical text of a proper tree leads to its pieces
pub printed_leads : (tree : Tree) → IsWellFormed tree → AreProper v1 (tree_pieces tree) → Leads v1 (printed tree) (tree_pieces tree)
printed_leads tree ok h = by ok.0
  where
    lead : (version : Version) (f : Facts) → AreProper v1 (after_brace version f (flat_map statement_pieces tree.statements))
        → Leads v1 (head_text version f (flat_map statement_text tree.statements))
        (word (codes "service_global_info") ∷ equals ∷ open_brace ∷ after_brace version f (flat_map statement_pieces tree.statements))
    lead version f proper = head_lead version f (flat_map statement_text tree.statements) (flat_map statement_pieces tree.statements) proper (λ are. statements_lead tree.statements ok.1 are)

    by : IsHead tree.facts → Leads v1 (printed tree) (tree_pieces tree)
    by (inl first) =
        subst (λ n. AreProper v1 (tree_pieces (as_version tree n)) → Leads v1 (printed (as_version tree n)) (tree_pieces (as_version tree n))) (sym first.0)
        (λ proper. simp append_assoc (lead v1 (as_version tree 1).facts proper.1.1.1)) h
    by (inr (inl second)) =
        subst (λ n. AreProper v1 (tree_pieces (as_version tree n)) → Leads v1 (printed (as_version tree n)) (tree_pieces (as_version tree n))) (sym second)
        (λ proper. simp append_assoc (lead v2 (as_version tree 2).facts proper.1.1.1)) h
    by (inr (inr third)) =
        subst (λ n. AreProper v1 (tree_pieces (as_version tree n)) → Leads v1 (printed (as_version tree n)) (tree_pieces (as_version tree n))) (sym third)
        (λ proper. simp append_assoc (lead v3 (as_version tree 3).facts proper.1.1.1)) h
