-- The ends of links, as they are cut from the values of `link`.
use Rattle.std.specs.Prelude.{◌≡◌, List, [], ◌∷◌, ◌++◌, map, codes}
use Rattle.quantity.specs.Bytes.{Bytes}
use Rattle.model_text.specs.declared.kind.Kind.TheVariants.{BadValue, UnknownPort}
use Rattle.model_tree.specs.declared.link.End.TheVariants.{Own, Cell}
use Rattle.model_tree.specs.Tree.{Group}
use Rattle.model_text.specs.Examples.{model_without_files, group_in}
use Rattle.model_text.specs.RefusalExamples.{refuses}

-- a group of one cell, whose output o has this link at line 7
abbrev pub group_with_link : Bytes → List Bytes
group_with_link value =
    codes "[top]" ∷ codes "components : g" ∷ codes "[g]" ∷ codes "type : cell" ∷ codes "dim : (1,1)"
    ∷ codes "out : o" ∷ (codes "link : " ++ value)
    ∷ codes "localtransition : r" ∷ codes "[r]" ∷ []

-- a tuple is one piece with the text beside it, its blanks included; any other parenthesis is a
-- byte like others
pub record EndsAreCut : Type 0 where
  pub left_open : refuses (group_with_link (codes "out@g(0,0 o")) 7 UnknownPort
  pub opened_twice : refuses (group_with_link (codes "out@g((0,0) o")) 7 UnknownPort
  pub turned_round : refuses (group_with_link (codes "out@g)( o")) 7 UnknownPort
  pub within_another : refuses (group_with_link (codes "out@g(0,(0) 0) o")) 7 BadValue
  pub no_comma : refuses (group_with_link (codes "out@g(0 0) o")) 7 BadValue
  pub blank_after_sign : refuses (group_with_link (codes "out@g(- 0,0) o")) 7 BadValue
  pub blanks_in_a_tuple : map (λ (g : Group). g.links)
      (group_in (model_without_files (group_with_link (codes "out@g( 0 , 0 ) o")))) ≡
      (record { from = Cell (codes "out") 0; to = Own (codes "o") } ∷ []) ∷ []
