mod NodeSizes
