-- Every configuration that is reached from the start is one of the chart.
use Rattle.std.proofs.Common.{ℕ, List, [], ◌∷◌, Option, None, Some, subst}
use Rattle.std.specs.List.{AllZip}
use Rattle.std.proofs.Math.Logic.{∥∥₁_elim}
use Rattle.std.proofs.Props.{props}
use Rattle.chart_model.specs.declared.chart.Chart.{Chart}
use Rattle.subject.specs.Meaning.{IsReached, state_after}
use Rattle.subject.specs.VectorSet.{Word}
use Rattle.chart_meaning.specs.Configuration.{Configuration}
use Rattle.chart_meaning.specs.IsConfiguration.{IsConfiguration, IsLastOf}
use Rattle.chart_meaning.specs.Plan.{plan_of_chart}
use Rattle.chart_meaning.specs.Step.{next_of, start_of}
use Rattle.chart_meaning.proofs.Keeping.{IsConfiguration-next, IsConfiguration-start}

AllZip-prop : {X Y : Type 0} (R : X → Y → Type 0) → ((x : X) (y : Y) → IsProp (R x y)) → (xs : List X) (ys : List Y) → IsProp (AllZip R xs ys)
AllZip-prop R p [] [] = hlevel
AllZip-prop R p [] (y ∷ ys) = hlevel
AllZip-prop R p (x ∷ xs) [] = hlevel
AllZip-prop R p (x ∷ xs) (y ∷ ys) = hlevel (p x y, AllZip-prop R p xs ys)

IsLastOf-prop : (chart : Chart) (s : ℕ) (o : Option ℕ) → IsProp (IsLastOf chart s o)
IsLastOf-prop chart s None = hlevel props
IsLastOf-prop chart s (Some child) = hlevel props

IsConfiguration-prop : (chart : Chart) (c : Configuration) → IsProp (IsConfiguration chart c)
IsConfiguration-prop chart c = hlevel (props, AllZip-prop, IsLastOf-prop)

pub walked : (chart : Chart) (c : Configuration) (w : Word) → IsConfiguration chart c → IsConfiguration chart (state_after (plan_of_chart chart) c w)
walked chart c [] h = h
walked chart c (x ∷ w) h = walked chart (next_of chart c x) w (IsConfiguration-next chart c x h)

pub IsConfiguration-reached : (chart : Chart) (c : Configuration) → IsReached (plan_of_chart chart) c → IsConfiguration chart c
IsConfiguration-reached chart c h =
    ∥∥₁_elim h (IsConfiguration-prop chart c) (λ r. subst (IsConfiguration chart) r.leads (walked chart (start_of chart) r.word (IsConfiguration-start chart)))
