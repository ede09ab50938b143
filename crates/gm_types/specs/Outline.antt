-- What a specification says, as it is kept.
use Rattle.gm_types.specs.declared.outline.Outline.{Outline}
use Rattle.gm_types.specs.Specification.{Specification}

abbrev pub outlined : Outline → Specification
outlined o = record {
  name = o.name;
  number = o.number;
  attributes = o.attributes;
  «data» = o.user_data;
  geometry = o.geometry;
}
