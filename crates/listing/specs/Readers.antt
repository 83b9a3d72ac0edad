-- The lines of choices that each reader has.
use Rattle.listing.specs.declared.Reader.{Reader}
use Rattle.listing.specs.declared.Reader.TheVariants.{Farm, Supplier}
use Rattle.listing.specs.Listing.{PlanLines, plan_lines, supplier_lines}

abbrev pub lines_for : Reader → PlanLines
lines_for Farm = plan_lines
lines_for Supplier = supplier_lines
