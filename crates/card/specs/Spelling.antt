-- The network that a card spells, its limits, and its one spelling.
use Rattle.std.specs.Prelude.{◌≡◌, ℕ, ◌^◌, ◌<◌, ◌≤◌, true, List, [], ◌∷◌, ◌++◌, length, codes, decimal, sum_by, nat_eq}
use Rattle.std.specs.List.{AllByRecursion}
use Rattle.network.specs.Sheets.{is_distinct}
use Rattle.banks.specs.declared.table.Kind.{Kind}
use Rattle.banks.specs.declared.table.Kind.TheVariants.{Allow, Deny}
use Rattle.banks.specs.declared.rule.Rule.{Rule}
use Rattle.banks.specs.declared.rule.Rule.TheVariants.{NotEqual, AllDiff}
use Rattle.banks.specs.Tables.{climbs}

pub record Table : Type 0 where
  pub kind : Kind
  pub scope : List ℕ
  pub tuples : List (List ℕ)

pub record RuleSheet : Type 0 where
  pub rule : Rule
  pub scope : List ℕ

pub record Network : Type 0 where
  pub masks : List ℕ
  pub tables : List Table
  pub rules : List RuleSheet

-- 2 to 6 different blocks below n
pub record ScopeWithin (n : ℕ) (scope : List ℕ) : Type 0 where
  pub low : 2 ≤ length scope
  pub high : length scope ≤ 6
  pub blocks : AllByRecursion (λ b. b < n) scope
  pub apart : is_distinct nat_eq scope ≡ true

pub record TableWithin (n : ℕ) (t : Table) : Type 0 where
  pub scope : ScopeWithin n t.scope
  pub tuples : AllByRecursion (λ u. (length u ≡ length t.scope) × AllByRecursion (λ s. s < 32) u) t.tuples
  pub ascend : climbs t.tuples ≡ true

pub record Within (x : Network) : Type 0 where
  pub few : (1 ≤ length x.masks) × (length x.masks ≤ 32)
  pub masks : AllByRecursion (λ m. m < 2 ^ 32) x.masks
  pub sheets : length x.tables ≤ 32
  pub tables : AllByRecursion (TableWithin (length x.masks)) x.tables
  pub few_tuples : sum_by (λ t. length t.tuples) x.tables ≤ 4096
  pub few_rules : length x.rules ≤ 192
  pub rules : AllByRecursion (λ r. ScopeWithin (length x.masks) r.scope) x.rules

-- a line: key, equals sign, value, newline
abbrev pub line : List ℕ → List ℕ → List ℕ
line key value = key ++ (61 ∷ value ++ (10 ∷ []))

abbrev pub listed : List ℕ → List ℕ
listed [] = []
listed (x ∷ []) = decimal x
listed (x ∷ (y ∷ ys)) = decimal x ++ (44 ∷ listed (y ∷ ys))

abbrev pub kind_word : Kind → List ℕ
kind_word Allow = codes "allow"
kind_word Deny = codes "deny"

abbrev pub rule_word : Rule → List ℕ
rule_word NotEqual = codes "notequal"
rule_word AllDiff = codes "alldiff"

abbrev pub each : {A : Type 0} → (A → List ℕ) → List A → List ℕ
each f [] = []
each f (x ∷ xs) = f x ++ each f xs

abbrev pub spell_table : Table → List ℕ
spell_table t =
    line (codes "kind") (kind_word t.kind) ++ line (codes "scope") (listed t.scope)
    ++ line (codes "rows") (decimal (length t.tuples)) ++ each (λ u. line (codes "row") (listed u)) t.tuples

abbrev pub spell_rule : RuleSheet → List ℕ
spell_rule r = line (codes "rule") (rule_word r.rule) ++ line (codes "scope") (listed r.scope)

abbrev pub spell : Network → List ℕ
spell x =
    line (codes "blocks") (decimal (length x.masks)) ++ each (λ m. line (codes "open") (decimal m)) x.masks
    ++ line (codes "sheets") (decimal (length x.tables)) ++ each spell_table x.tables
    ++ line (codes "rules") (decimal (length x.rules)) ++ each spell_rule x.rules
    ++ line (codes "end") (codes "net")
