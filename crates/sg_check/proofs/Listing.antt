-- The interface that is declared, part by part.
use Rattle.std.proofs.Common.{◌≡◌, ℕ, ◌+◌, ◌<◌, Bool, true, false, cond, List, [], ◌∷◌, ◌++◌, length, map, take, get_or, sym, ◌∙◌, ap, append-nil}
use Rattle.std.specs.Prelude.{filter, codes}
use Rattle.std.proofs.lemmas.List.Elements.{filter_more}
use Rattle.sg_check_statements.specs.sg_facts.declared.shape.Shape.{Shape}
use Rattle.sg_check_statements.specs.sg_facts.Facts.{facts_of, fun_at, fun_of_shape}
use Rattle.sg_check_statements.specs.sg_facts.Fields.{number_of}
use Rattle.sg_check_statements.specs.sg_facts.Interface.{Declared}
use Rattle.sg_check_statements.specs.sg_parse.declared.tree.Statement.{Statement}
use Rattle.sg_check_statements.specs.sg_parse.declared.tree.Tree.{Tree}
use Rattle.sg_check_statements.specs.Faults.{interface_of}
use Rattle.sg_check_statements.specs.Says.{has_proto, says_of}
use Rattle.sg_check_statements.proofs.Judged.{same_pairs}

-- one pair more is listed, or passed over
module _ (p : ℕ × ℕ → Bool) (pairs : List (ℕ × ℕ)) (k : ℕ) (d : ℕ × ℕ) (within : k < length pairs) (old : List (ℕ × ℕ)) (are : old ≡ filter p (take k pairs)) where
  more : (b : Bool) → p (get_or pairs k d) ≡ b → filter p (take (k + 1) pairs) ≡ old ++ cond b (get_or pairs k d ∷ []) []
  more b is = filter_more p pairs k d within ∙ ap (λ l. l ++ cond (p (get_or pairs k d)) (get_or pairs k d ∷ []) []) (sym are) ∙ ap (λ t. old ++ cond t (get_or pairs k d ∷ []) []) is

  pub listed_one : (new : List (ℕ × ℕ)) → new ≡ old ++ get_or pairs k d ∷ [] → p (get_or pairs k d) ≡ true → new ≡ filter p (take (k + 1) pairs)
  listed_one new one is = one ∙ sym (more true is)

  pub passed_one : (new : List (ℕ × ℕ)) → new ≡ old → p (get_or pairs k d) ≡ false → new ≡ filter p (take (k + 1) pairs)
  passed_one new same is = same ∙ sym (append-nil old) ∙ sym (more false is)

-- all parts
pub whole : (shape : Shape) (tree : Tree) (statements : List Statement) (declared : ℕ) (moves steps : List (ℕ × ℕ)) → statements ≡ tree.statements
    → declared ≡ number_of (map (λ f. has_proto statements f.name) (map fun_of_shape shape.funs.now))
    → moves ≡ filter (λ p. says_of statements (codes "sm_transition") (fun_at (facts_of shape).funs p.0).name (fun_at (facts_of shape).funs p.1).name) shape.moves.now
    → steps ≡ filter (λ p. says_of statements (codes "sm_recover") (fun_at (facts_of shape).funs p.0).name (fun_at (facts_of shape).funs p.1).name) shape.steps.now
    → record { facts = facts_of shape; declared = declared; version = tree.facts.version; eager = tree.facts.eager; moves = moves; steps = steps } ≡ interface_of (facts_of shape) tree
whole shape tree statements declared moves steps lent d m s =
    let i : ℕ → List (ℕ × ℕ) → List (ℕ × ℕ) → Declared = λ n ms ss. record { facts = facts_of shape; declared = n; version = tree.facts.version; eager = tree.facts.eager; moves = ms; steps = ss } in
    let P : ℕ × ℕ → Bool = λ p. says_of statements (codes "sm_transition") (fun_at (facts_of shape).funs p.0).name (fun_at (facts_of shape).funs p.1).name in
    let R : ℕ × ℕ → Bool = λ p. says_of statements (codes "sm_recover") (fun_at (facts_of shape).funs p.0).name (fun_at (facts_of shape).funs p.1).name in
    let D : ℕ = number_of (map (λ f. has_proto statements f.name) (map fun_of_shape shape.funs.now)) in
    let M : List (ℕ × ℕ) = filter P (facts_of shape).moves in
    ap (λ n. i n moves steps) d ∙ ap (λ ms. i D ms steps) (m ∙ ap (filter P) (sym (same_pairs shape.moves.now)))
    ∙ ap (λ ss. i D M ss) (s ∙ ap (filter R) (sym (same_pairs shape.steps.now)))
    ∙ ap (λ l. interface_of (facts_of shape) (record tree { statements = l })) lent
