-- What is wrong with a part: whether it comes again, and what is wrong within it.
use Rattle.std.proofs.Common.{◌≡◌, ℕ, Bool, List, [], ◌∷◌, ◌++◌, Option, Some, length, refl, sym, ◌∙◌, ap}
use Rattle.std.specs.List.{flat_map}
use Rattle.sg_facts.specs.Interface.{Declared}
use Rattle.sg_script_parse.specs.declared.tree.Part.{Part}
use Rattle.sg_script_parse.specs.declared.tree.Part.TheVariants.{Setup, Client, Schedule, Stop}
use Rattle.sg_script.specs.declared.fault.ScriptFault.{ScriptFault}
use Rattle.sg_script.specs.declared.fault.ScriptKind.TheVariants.{Twice}
use Rattle.sg_script.specs.Flaws.{calls_in, part_flaws, script_flaw_if}
use Rattle.sg_script.specs.Inside.Firsts.{first_after, first_of_two}
use Rattle.sg_script.specs.Inside.Parts.{comes_again, inner_flaws, part_place}

pub by_part : (members : List Declared) (setup : ℕ) (front : List Part) (p : Part)
    → part_flaws members setup front p ≡ script_flaw_if (comes_again members front p) Twice (part_place p) ++ inner_flaws members setup (length (flat_map calls_in front)) p
by_part members setup front (Setup at calls) = refl
by_part members setup front (Client at n calls) = refl
by_part members setup front (Schedule at numbers) = refl
by_part members setup front (Stop at service numbers) = refl

-- the first behind some flaws and more
after_more : (f : Option ScriptFault) (xs ys : List ScriptFault) → first_after f (xs ++ ys) ≡ first_after (first_after f xs) ys
after_more f [] ys = refl
after_more f (x ∷ xs) ys = after_more (Some (first_of_two f x)) xs ys

-- what is kept of a part's flaws, where it is kept of whether the part comes again, and then of what is wrong within it
pub part_judged : (members : List Declared) (setup : ℕ) (front : List Part) (p : Part) (f g h : Option ScriptFault) (again : Bool) (place before : ℕ)
    → again ≡ comes_again members front p → place ≡ part_place p → before ≡ length (flat_map calls_in front)
    → g ≡ first_after f (script_flaw_if again Twice place) → h ≡ first_after g (inner_flaws members setup before p)
    → h ≡ first_after f (part_flaws members setup front p)
part_judged members setup front p f g h again place before a b c one two =
    let own : g ≡ first_after f (script_flaw_if (comes_again members front p) Twice (part_place p)) =
    one ∙ ap (λ x. first_after f (script_flaw_if x Twice place)) a ∙ ap (λ x. first_after f (script_flaw_if (comes_again members front p) Twice x)) b in
    two ∙ ap (λ x. first_after x (inner_flaws members setup before p)) own
    ∙ ap (λ n. first_after (first_after f (script_flaw_if (comes_again members front p) Twice (part_place p))) (inner_flaws members setup n p)) c
    ∙ sym (after_more f (script_flaw_if (comes_again members front p) Twice (part_place p)) (inner_flaws members setup (length (flat_map calls_in front)) p))
    ∙ ap (first_after f) (sym (by_part members setup front p))
